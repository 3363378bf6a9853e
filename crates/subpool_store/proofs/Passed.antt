-- Free runs of a page that are too short, which a pass comes by.
use Rattle.std.proofs.Common.{◌≡◌, ◌∙◌, ℕ, ◌+◌, ◌*◌, ◌/◌, ◌<◌, ◌&&◌, not, true, false, List, Option, length, get_or, sym, ap, subst, inl, inr, arith}
use Rattle.std.proofs.lemmas.Bool.{both_ways, cases_lt}
use Rattle.std.proofs.lemmas.List.{get_or_default, get_or_past}
use Rattle.page_map.specs.Owners.{is_usable, owner_of}
use Rattle.subpool_store.specs.Edits.{IsFreeRun}
use Rattle.subpool_store.specs.Memory.{IsCursor, MemoryState}
use Rattle.subpool_store.specs.Search.{IsExact, NoneFits, may_take}
use Rattle.subpool_store.specs.PageWalk.{IsInside, IsWalk, entry_of, looked_at}
use Rattle.subpool_store.specs.declared.counted.Counted.{Counted}
use Rattle.subpool_store.specs.declared.counted.PageUse.{PageUse}
use Rattle.subpool_store.specs.declared.counted.PageUse.TheVariants.{Own}
use Rattle.subpool_store.specs.declared.walk.PageWalk.{PageWalk}
use Rattle.subpool_store.proofs.Begun.{counted_few, inside_counted}
use Rattle.subpool_store.proofs.Entries.{entry_own}
use Rattle.subpool_store.proofs.Short.{fits_short, fits_skip}

-- what is held may not be taken
pub held_fails : (m : MemoryState) (pages : List (Option ℕ)) (s i : ℕ) → get_or m.held i false ≡ true → may_take m.held pages s i ≡ false
held_fails m pages s i set = elim (cases_lt i (length m.held)) [
  | inl low ↦ ap (λ b. not b && is_usable s (owner_of pages (i / 512))) (get_or_default m.held i true false low ∙ set)
  | inr past ↦ absurd (both_ways _ (get_or_past m.held i false past) set)
]

-- a pass that has joined nothing
abbrev pub walk_at : ℕ → PageUse → ℕ → Counted → PageWalk
walk_at at entry queue counted = record { start = at; end = at; entry = entry; queue = queue; counted = counted }

-- a pass has not counted much
pub walk_few : (m : MemoryState) (pages : List (Option ℕ)) (s : ℕ) (w : PageWalk) → IsExact m.held pages → IsWalk m pages s w → w.counted.steps < 33554432
walk_few m pages s w exact walk = counted_few m pages s w.end w.counted.steps walk.counted walk.within exact.sizes exact.most

module _ (m : MemoryState) (pages : List (Option ℕ)) (s n : ℕ) (exact : IsExact m.held pages) (w : PageWalk) (walk : IsWalk m pages s w) (inside : IsInside pages s w) (page start end trailing : ℕ) (here : w.end / 512 ≡ page)
    (run : IsFreeRun m.held w.end (512 * page + 512) start end) (ends : end < 512 * page + 512) where
  pub short_page : end / 512 ≡ page
  short_page = omega (arith, here, run.some, run.after, ends)

  pub short_inside : entry_of pages s (end / 512) ≡ Own
  short_inside = ap (entry_of pages s) (short_page ∙ sym here) ∙ inside

  short_fails : may_take m.held pages s end ≡ false
  short_fails = held_fails m pages s end (run.stops ends)

  -- a run more
  pub short_passed : IsCursor m page end trailing → (more : Counted) → more.steps ≡ w.counted.steps + 1 → IsWalk m pages s (record { start = end; end = end; entry = w.entry; queue = trailing; counted = more })
  short_passed cursor more is =
      let own = entry_own pages s (w.end / 512) inside in record {
        ordered = omega arith;
        within = let low = own.0 in omega (arith, here, low, ends, exact.sizes);
        passes = λ i low high. absurd (omega (arith, low, high));
        stands = record {
          is = walk.stands.is ∙ inside ∙ sym short_inside;
          page = inl (walk.stands.is ∙ inside);
          cursor = λ _. subst (λ p. IsCursor m p end trailing) (sym short_page) cursor;
          fresh = λ _. inr (run.stops ends);
        };
        counted =
            let one = inside_counted m pages s w.end start end own.0 own.1 (walk.stands.fresh (walk.stands.is ∙ inside)) (subst (λ p. IsFreeRun m.held w.end (512 * p + 512) start end) (sym here) run) more.steps (omega (arith, is)) (omega (arith, here, ends)) in
            let counted : w.counted.steps ≡ looked_at m pages s w.end = walk.counted in
            omega (arith, one, counted, is);
      }

  -- in which nothing fits
  pub short_fits : end < start + n → (from : ℕ) → NoneFits (may_take m.held pages s) n from w.end → NoneFits (may_take m.held pages s) n from end
  short_fits past from none =
      fits_short (may_take m.held pages s) n from start end past short_fails
      (fits_skip (may_take m.held pages s) n from w.end start (omega (arith, past, run.some)) none (λ i low high. held_fails m pages s i (run.held i low high)))
