use Rattle.std.proofs.Common.{None, replicate, subst, sym, ap, ◌∙◌, length}
use Rattle.std.proofs.lemmas.List.{length-replicate}
use Rattle.subpool_store.specs.Region.{IsOpened, value_at}
use Rattle.subpool_store.proofs.Methods.{region_sound, nothing_kept, nothing_region}
use Rattle.subpool_store.proofs.Opened.{opened_none}
use Rattle.subpool_store.proofs.region_store.RegionStore.new.Goals as goal

pub invariant_of-result : goal.invariant_of-result
invariant_of-result c = (
  nothing_kept c.args.first c.args.pages _ _ c.requires.few c.requires.aligned c.requires.end c.requires.one_side c.in_ok-new-2.ensures.clear c.in_ok-new.ensures.free,
  subst (λ pages. IsOpened pages c.in_ok-new-2.field-0.bytes) (sym c.in_ok-new.ensures.free) (subst (IsOpened (replicate c.args.pages None)) (sym c.in_ok-new-2.ensures.blank) (opened_none c.args.pages)),
)

pub returns-clause-empty : goal.returns-clause-empty
returns-clause-empty c = nothing_region c.args.first c.args.pages _ _ (value_at c.in_ok-new-2.field-0.bytes) c.in_ok-new-2.ensures.clear (ap length c.in_ok-new.ensures.free ∙ length-replicate c.args.pages _)

pub returns-clause-sound : goal.returns-clause-sound
returns-clause-sound c = region_sound c.args.first _ _ (value_at c.in_ok-new-2.field-0.bytes) (nothing_kept c.args.first c.args.pages _ _ c.requires.few c.requires.aligned c.requires.end c.requires.one_side c.in_ok-new-2.ensures.clear c.in_ok-new.ensures.free)
