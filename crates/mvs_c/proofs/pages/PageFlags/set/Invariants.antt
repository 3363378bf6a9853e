use Rattle.std.proofs.Common.{◌≡◌, ℕ, ◌<◌, ◌≤◌, length}
use Rattle.mvs_c.specs.Pages.{flag_of}
use Rattle.mvs_c.proofs.pages.PageFlags.set.Given as goal

abbrev pub invariant-loop-page : goal.invariant-loop-page
invariant-loop-page l = record {
  len : length l.self-inside.flags.items ≡ 12288;
  before : (page : ℕ) → page < l.from → flag_of l.self-inside.flags.items page ≡ flag_of l.fn.self page;
  set : (page : ℕ) → l.from ≤ page → page < l.page → flag_of l.self-inside.flags.items page ≡ l.flag;
}
