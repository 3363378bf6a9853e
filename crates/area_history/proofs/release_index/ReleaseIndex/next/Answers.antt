use Rattle.std.proofs.Common.{◌≡◌, ◌+◌, Bool, true, false, refl, sym, subst, arith}
use Rattle.std.specs.Prelude.{◌⊎◌}
use Rattle.area_history.specs.ReleaseIndex.{first_code, has_code}
use Rattle.area_history.proofs.release_index.ReleaseIndex.next.Goals as goal

fails : (b : Bool) → ((b ≡ true) → ⊥) → b ≡ false
fails true h = absurd (h refl)
fails false h = refl

pub returns-clause-none : goal.returns-clause-none
returns-clause-none c events is i e get f t k =
    let owners = c.args.self.now.owners in
    let owner = c.args.owner.now in
    fails _ (λ con.
    let first = c.next.ensures.first i f (subst (λ n. (has_code owners (first_code owner n + i) ≡ true) ⊎ (has_code owners (first_code owner 255 + i) ≡ true)) (sym c.get.ensures.value) (is.codes i e owner c.args.number get k con)) in
    omega (arith, first, t))
