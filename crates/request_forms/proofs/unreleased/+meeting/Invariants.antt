use Rattle.std.proofs.Common.{length}
use Rattle.request_forms.proofs.unreleased.+meeting.Given as goal

abbrev pub decreases-meeting : goal.decreases-meeting
decreases-meeting l = length l.others.now
