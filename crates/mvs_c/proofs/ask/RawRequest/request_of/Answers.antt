-- The request of a kind is what the function for that kind returns.
use Rattle.mvs_c.proofs.ask.RawRequest.request_of.Goals as goal

pub returns-in-Obtain : goal.returns-in-Obtain
returns-in-Obtain c = rw (c.in-Obtain.is) c.obtain.ensures

pub returns-in-Release : goal.returns-in-Release
returns-in-Release c = rw (c.in-Release.is) c.release.ensures

pub returns-in-ReleaseWhole : goal.returns-in-ReleaseWhole
returns-in-ReleaseWhole c = rw (c.in-ReleaseWhole.is) c.release_whole.ensures

pub returns-in-Build : goal.returns-in-Build
returns-in-Build c = rw (c.in-Build.is) c.build.ensures

pub returns-in-Free : goal.returns-in-Free
returns-in-Free c = rw (c.in-Free.is) c.free.ensures

pub returns-in-Attach : goal.returns-in-Attach
returns-in-Attach c = rw (c.in-Attach.is) c.attach.ensures
