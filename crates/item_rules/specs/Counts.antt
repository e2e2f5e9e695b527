-- How many items are of a form.
use Rattle.std.specs.Prelude.{ℕ, Bool, List, length, is_some}
use Rattle.amdl_tree.specs.declared.tree.Item.{Item}
use Rattle.amdl_tree.specs.Items.{kind_item, field_item, host_item, box_item, sends_item, forbid_item}
use Rattle.amdl_tree.specs.Items.{kind_items, field_items, host_items, box_items, sends_items, forbid_items}
use Rattle.item_rules.specs.declared.forms.Form.{Form}
use Rattle.item_rules.specs.declared.forms.Form.TheVariants.{Kind, Field, Host, Instance, Sends, Forbid}

-- the item is of the form
abbrev pub has_form : Form → Item → Bool
has_form Kind item = is_some (kind_item item)
has_form Field item = is_some (field_item item)
has_form Host item = is_some (host_item item)
has_form Instance item = is_some (box_item item)
has_form Sends item = is_some (sends_item item)
has_form Forbid item = is_some (forbid_item item)

abbrev pub count_of : Form → List Item → ℕ
count_of Kind items = length (kind_items items)
count_of Field items = length (field_items items)
count_of Host items = length (host_items items)
count_of Instance items = length (box_items items)
count_of Sends items = length (sends_items items)
count_of Forbid items = length (forbid_items items)
