use Rattle.std.proofs.Common.{refl}
use Rattle.std.specs.FinMap.{empty}
use Rattle.mvs_model.specs.Changes.{Granted}
use Rattle.mvs_model.specs.Owners.{Owners}
use Rattle.request_forms.specs.Machine.{machine_state}
use Rattle.request_forms.proofs.Accessing.{may_as, not_as, held_place, put_agrees}
use Rattle.request_forms.proofs.access.write_where_granted.Goals as goal

-- who owns what does not matter to bytes
nobody : Owners
nobody = record { tasks = empty; table = empty; owner = empty }

pub returns-then-not-may_access-clause-written : goal.returns-then-not-may_access-clause-written
returns-then-not-may_access-clause-written c o =
    (not_as (Granted (machine_state c.args.pools.now c.args.store.now.storage o)) c.may_access.result c.args.place c.args.place refl (c.may_access.ensures.granted o) c.if-not-may_access.true, refl)

pub write-requires-clause-held : goal.write-requires-clause-held
write-requires-clause-held c =
    held_place c.args.pools.now c.args.store.now.storage c.requires.agree nobody c.args.place c.may_access.ensures.some ((c.may_access.ensures.granted nobody).0 c.if-not-may_access.false)

pub returns-clause-written : goal.returns-clause-written
returns-clause-written c o =
    (may_as (Granted (machine_state c.args.pools.now c.args.store.now.storage o)) c.may_access.result c.args.place c.args.place refl (c.may_access.ensures.granted o) c.if-not-may_access.false, c.write.ensures)

pub returns-clause-agree : goal.returns-clause-agree
returns-clause-agree c =
    put_agrees c.args.pools.now c.args.store.now.storage c.requires.agree nobody c.write.new.store.storage c.args.place c.args.bytes.now c.write.ensures ((c.may_access.ensures.granted nobody).0 c.if-not-may_access.false)
