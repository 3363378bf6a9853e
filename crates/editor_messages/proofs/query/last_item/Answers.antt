use Rattle.json.specs.Value.{value_view}
use Rattle.editor_messages.proofs.LastItem.{last_viewed}
use Rattle.editor_messages.proofs.query.last_item.Goals as goal

pub returns : goal.returns
returns c = last_viewed value_view c.last.result c.args.items.now c.last.ensures.value
