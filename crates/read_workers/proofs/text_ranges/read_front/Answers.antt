use Rattle.std.proofs.Common.{sym, ◌∙◌}
use Rattle.read_workers.proofs.RangeLaws.{front_read}
use Rattle.read_workers.proofs.text_ranges.read_front.Goals as goal

pub returns-in-Ok-read_whole_module : goal.returns-in-Ok-read_whole_module
returns-in-Ok-read_whole_module c =
    front_read c.args.text.now c.args.end _ c.new-reader.result c.read_whole_module.new.reader c.in-Ok-read_whole_module.found
    c.requires.within c.in-Ok.ensures.tokens c.new-reader.ensures c.in-Ok-read_whole_module.ensures.is (sym c.may_go_on_with_headers.ensures ∙ c.if-may_go_on_with_headers.false)
