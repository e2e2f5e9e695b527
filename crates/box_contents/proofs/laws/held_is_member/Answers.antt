use Rattle.box_contents.proofs.Entries.{entries_total, exact}
use Rattle.box_contents.proofs.Held.{held_member, member_held}
use Rattle.box_contents.proofs.laws.held_is_member.Goals as goal

pub returns : goal.returns
returns c = λ entries entry. (held_member entries_total exact entry entries, member_held entries_total entry entries)
