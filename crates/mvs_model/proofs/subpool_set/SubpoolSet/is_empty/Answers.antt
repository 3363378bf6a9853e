use Rattle.std.proofs.Common.{◌≡◌, true, false, refl}
use Rattle.mvs_model.proofs.SubpoolSets.{nobody, somebody}
use Rattle.mvs_model.proofs.subpool_set.SubpoolSet.is_empty.Goals as goal

pub returns-in-Some : goal.returns-in-Some
returns-in-Some c = (λ no'. absurd (let e : false ≡ true = no' in cc), λ e. absurd (somebody c.args.self.now _ c.in-Some.ensures.1 e))

pub returns-in-None : goal.returns-in-None
returns-in-None c = (λ _. nobody c.args.self.now c.in-None.ensures, λ _. refl)
