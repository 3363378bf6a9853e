use Rattle.std.proofs.Common.{◌≡◌, ℕ, ◌<◌, true}
use Rattle.mvs_c.specs.Pages.{flag_of}
use Rattle.mvs_c.proofs.pages.PageFlags.is_same.Given as goal

abbrev pub invariant-loop-page : goal.invariant-loop-page
invariant-loop-page l = l.same ≡ true → (page : ℕ) → page < l.page → flag_of l.self page ≡ flag_of l.other page
