use Rattle.std.proofs.Common.{◌++◌, ◌∷◌, [], ap, sym, ◌∙◌}
use Rattle.mvs_model.specs.Reading.{is_address, is_address_in_range, location, items}
use Rattle.job_script.specs.Items.{inner, items_in}
use Rattle.job_script.proofs.ListsRead.{more_items, parts_items, all_first, reads_first, reads_next}
use Rattle.job_script.proofs.values.locations.Goals as goal

pub location-requires-clause-address : goal.location-requires-clause-address
location-requires-clause-address c =
    let parts = ap items_in (sym c.between.ensures) ∙ parts_items c.between.result.now c.split_once.result.0.now c.split_once.result.1 c.split_once.ensures.parts in
    (all_first is_address (items c.args.text.now) _ _ c.requires.are parts).0

pub location-requires-clause-range : goal.location-requires-clause-range
location-requires-clause-range c =
    let parts = ap items_in (sym c.between.ensures) ∙ parts_items c.between.result.now c.split_once.result.0.now c.split_once.result.1 c.split_once.ensures.parts in
    (all_first is_address_in_range (items c.args.text.now) _ _ c.requires.within parts).0

pub items-init : goal.items-init
items-init c =
    let item = c.split_once.result.0.now in
    let parts = ap items_in (sym c.between.ensures) ∙ parts_items c.between.result.now item c.split_once.result.1 c.split_once.ensures.parts in
    record {
      on = reads_first location c.one-list.result c.split_once.result.1 (inner c.args.text.now) item (c.one-list.ensures ∙ ap (λ x. x ∷ []) c.location.ensures) parts c.requires.few;
      left = ((all_first is_address (items c.args.text.now) _ _ c.requires.are parts).1, (all_first is_address_in_range (items c.args.text.now) _ _ c.requires.within parts).1);
    }

pub location-requires-in-Some-clause-address : goal.location-requires-in-Some-clause-address
location-requires-in-Some-clause-address c =
    let parts = ap more_items c.in-Some.is ∙ parts_items c.in-Some.rest.now c.split_once-in-Some.result.0.now c.split_once-in-Some.result.1 c.split_once-in-Some.ensures.parts in
    (all_first is_address (more_items c.items.more) _ _ c.items.invariant.left.0 parts).0

pub location-requires-in-Some-clause-range : goal.location-requires-in-Some-clause-range
location-requires-in-Some-clause-range c =
    let parts = ap more_items c.in-Some.is ∙ parts_items c.in-Some.rest.now c.split_once-in-Some.result.0.now c.split_once-in-Some.result.1 c.split_once-in-Some.ensures.parts in
    (all_first is_address_in_range (more_items c.items.more) _ _ c.items.invariant.left.1 parts).0

pub items-preserved : goal.items-preserved
items-preserved c =
    let item = c.split_once-in-Some.result.0.now in
    let rest = parts_items c.in-Some.rest.now item c.split_once-in-Some.result.1 c.split_once-in-Some.ensures.parts in
    let parts = ap more_items c.in-Some.is ∙ rest in
    record {
      on = reads_next location c.items.list c.push.new.self c.items.more c.split_once-in-Some.result.1 c.in-Some.rest (inner c.args.text.now) item c.items.invariant.on c.in-Some.is rest
          (c.push.ensures ∙ ap (λ x. c.items.list ++ x ∷ []) c.location-in-Some.ensures);
      left = ((all_first is_address (more_items c.items.more) _ _ c.items.invariant.left.0 parts).1, (all_first is_address_in_range (more_items c.items.more) _ _ c.items.invariant.left.1 parts).1);
    }
