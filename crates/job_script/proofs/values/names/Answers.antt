use Rattle.std.proofs.Common.{ap, ◌∙◌}
use Rattle.mvs_model.specs.Name.{padded}
use Rattle.mvs_model.specs.Reading.{is_name}
use Rattle.std.proofs.Common.{◌++◌, ◌∷◌, []}
use Rattle.job_script.specs.Items.{inner}
use Rattle.job_script.proofs.ListsRead.{more_items, parts_items, all_first, reads_next}
use Rattle.job_script.proofs.values.names.Goals as goal

pub items-preserved : goal.items-preserved
items-preserved c =
    let item = c.split_once-in-Some.result.0.now in
    let parts = parts_items c.in-Some.rest.now item c.split_once-in-Some.result.1 c.split_once-in-Some.ensures.parts in
    record {
      on = reads_next padded c.items.list c.push.new.self c.items.more c.split_once-in-Some.result.1 c.in-Some.rest (inner c.args.text.now) item c.items.invariant.on c.in-Some.is parts
          (c.push.ensures ∙ ap (λ x. c.items.list ++ x ∷ []) c.name-in-Some.ensures);
      left = (all_first is_name (more_items c.items.more) item (more_items c.split_once-in-Some.result.1) c.items.invariant.left (ap more_items c.in-Some.is ∙ parts)).1;
    }
