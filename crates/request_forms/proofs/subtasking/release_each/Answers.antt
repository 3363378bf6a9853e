use Rattle.std.proofs.Common.{subst, sym}
use Rattle.std.specs.Prelude.{not}
use Rattle.std.specs.FinMap.{get}
use Rattle.mvs_model.specs.Finite.{Keeps}
use Rattle.mvs_model.specs.Storage.{ReleaseEach, is_one_of}
use Rattle.mvs_model.proofs.SeenEnd.{releases_none, keeps_none}
use Rattle.cell_pool.specs.Roots.{pools_of}
use Rattle.request_forms.proofs.Pooling.{still_agree, pools_gone}
use Rattle.request_forms.proofs.subtasking.release_each.Goals as goal

pub returns-then-is_empty : goal.returns-then-is_empty
returns-then-is_empty c =
    let none = c.is_empty.ensures.0 c.if-is_empty.true in record {
      released = subst (λ xs. ReleaseEach c.args.store.now.storage xs c.args.store.now.storage) (sym none) (releases_none c.args.store.now.storage);
      gone = subst (λ xs. Keeps (get (pools_of c.args.pools.now c.args.store.now.storage)) (λ _ p. not (is_one_of xs p.subpool)) (get (pools_of c.args.pools.now c.args.store.now.storage))) (sym none) (keeps_none (get (pools_of c.args.pools.now c.args.store.now.storage)));
      agree = c.requires;
    }

pub returns : goal.returns
returns c =
    let all = c.release_each.ensures.released in record {
      released = all;
      gone = pools_gone (is_one_of c.args.subpools.now) c.args.pools.now c.drop_subpools.new.self c.args.store.now.storage c.release_each.new.self.storage c.requires c.release_each.ensures.storage c.drop_subpools.ensures all.regions all.held all.bytes;
      agree = still_agree (is_one_of c.args.subpools.now) c.args.pools.now c.drop_subpools.new.self c.args.store.now.storage c.release_each.new.self.storage c.requires c.release_each.ensures.storage c.drop_subpools.ensures all.regions all.held all.bytes;
    }
