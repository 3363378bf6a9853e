use Rattle.std.proofs.Common.{◌≡◌, ℕ, ◌<◌}
use Rattle.mvs_c.specs.Pages.{flag_of}
use Rattle.mvs_c.proofs.pages.PageFlags.first_changed.Given as goal

abbrev pub invariant-loop-page : goal.invariant-loop-page
invariant-loop-page l = (page : ℕ) → page < l.page → flag_of l.self page ≡ flag_of l.other page
