-- No step lets two subpools hold doublewords of one page.
use Rattle.std.proofs.Common.{◌≡◌, ℕ, Bool, cond, Option, Some, None, refl, sym, ap, ◌∙◌, subst, arith}
use Rattle.std.specs.FinMap.{get}
use Rattle.std.proofs.lemmas.Bool.Decides.{nat_tests}
use Rattle.std.proofs.lemmas.Grind.{common_steps}
use Rattle.mvs_model.specs.Place.{PlaceValue}
use Rattle.mvs_model.specs.Want.{WantValue}
use Rattle.mvs_model.specs.Finite.{Changes, kept}
use Rattle.mvs_model.specs.Storage.{PageRule, Chosen, covers}
use Rattle.mvs_model.specs.State.{State, Holding, subpool_in, holder}
use Rattle.mvs_model.specs.Changes.{Drops}
use Rattle.mvs_laws.proofs.Kept.{Closed}
use Rattle.mvs_model.proofs.StorageLaws.{covers_is, fewer_keep_pages, taking_keeps_pages}

subpool_of_cond : (b : Bool) (h : Holding) (o : Option Holding) → subpool_in (cond b (Some h) o) ≡ cond b (Some h.subpool) (subpool_in o)
subpool_of_cond b h o = grind (arith, common_steps)

less_cond : (b : Bool) (o : Option Holding) (s : ℕ) → subpool_in (cond b None o) ≡ Some s → subpool_in o ≡ Some s
less_cond b o s h1 = grind (arith, nat_tests)

less_kept : (test : Holding → Bool) (o : Option Holding) (s : ℕ) → subpool_in (kept test o) ≡ Some s → subpool_in o ≡ Some s
less_kept test o s h1 = grind (arith, nat_tests)

pages_chosen : (old new : State) (s : ℕ) (h : Holding) (want : WantValue) (p : PlaceValue) → Chosen old.regions (holder old) s want p → h.subpool ≡ s → Changes (get old.held) (covers p) (Some h) (get new.held) → PageRule (holder old) → PageRule (holder new)
pages_chosen old new s h want p h1 h2 h3 h4 = grind (arith, nat_tests, subpool_of_cond, covers_is, taking_keeps_pages)

pages_less : (old new : State) (test : ℕ → Bool) → Changes (get old.held) test None (get new.held) → PageRule (holder old) → PageRule (holder new)
pages_less old new test held rule = fewer_keep_pages (holder old) (holder new) (λ d s e. less_cond (test d) (get old.held d) s (sym (ap subpool_in (held d)) ∙ e)) rule

pages_drops : (old new : State) (test : ℕ → Bool) → Drops old test new → PageRule (holder old) → PageRule (holder new)
pages_drops old new test drops rule = fewer_keep_pages (holder old) (holder new) (λ d s e. less_kept _ (get old.held d) s (sym (ap subpool_in (drops.held d)) ∙ e)) rule

pages_same : (old new : State) → new.held ≡ old.held → PageRule (holder old) → PageRule (holder new)
pages_same old new e rule = subst (λ m. PageRule (λ d. subpool_in (get m d))) (sym e) rule

abbrev pub Pages : State → Type 0
Pages st = PageRule (holder st)

pub pages_closed : Closed Pages
pages_closed = record {
  granted = λ old t number want p new asks g rule. pages_chosen old new g.subpool _ want p g.chosen refl g.held rule;
  freed = λ old s ps new w r f rule. pages_less old new _ f.held rule;
  emptied = λ old s new e rule. pages_drops old new _ e.drops rule;
  ended = λ old t new e rule. pages_drops old new _ e.drops rule;
  built = λ old t name number s plan p o new fresh r asks is enters x rule. pages_chosen old new s _ _ p x.chosen refl x.held rule;
  grown = λ old name pool p mid c new e x is k rule. pages_same mid new k.held (pages_chosen old mid pool.subpool _ _ p x.chosen refl x.held rule);
  taken = λ old name pool c new e is k rule. pages_same old new k.held rule;
  given = λ old name pool c new e is k rule. pages_same old new k.held rule;
  dropped = λ old name pool new e k rule. pages_less old new _ k.held rule;
  attached = λ old t name gifts residence new active e k rule. pages_same old new k.held rule;
  written = λ old p value new e has k rule. pages_same old new k.held rule;
}
