use Rattle.std.proofs.Common.{◌≡◌, ℕ, ◌<◌}
use Rattle.mvs_c.specs.Pages.{IsChanged, flag_of}
use Rattle.mvs_c.proofs.pages.PageFlags.last_changed.Given as goal

abbrev pub invariant-loop-page : goal.invariant-loop-page
invariant-loop-page l = record {
  low : l.last < 12288;
  changed : IsChanged l.self l.other l.last;
  last : (page : ℕ) → l.last < page → page < l.page → flag_of l.self page ≡ flag_of l.other page;
}
