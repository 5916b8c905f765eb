use Rattle.script_text.proofs.Places.{one_place_of_text, none_where_read}
use Rattle.script_text.proofs.laws.one_place.Goals as goal

pub returns : goal.returns
returns c = record { one = one_place_of_text; none = none_where_read }
