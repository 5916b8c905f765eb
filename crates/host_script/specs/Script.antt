-- The replies of a script, as runs take them.
use Rattle.std.specs.Prelude.{List, map}
use Rattle.ir_semantics.specs.Machine as run
use Rattle.host_script.specs.declared.script.Act.{Act}
use Rattle.host_script.specs.declared.script.Act.TheVariants.{Return, Trap, Throw}
use Rattle.host_script.specs.declared.script.Reply.{Reply}
use Rattle.host_script.specs.declared.script.Script.{Script}

abbrev pub act_of : Act → run.HostAct
act_of (Return numbers) = run.Returns numbers
act_of (Trap code) = run.HostTraps code
act_of (Throw tag p0 p1) = run.Throws tag p0 p1

abbrev pub reply_of : Reply → run.Reply
reply_of r = record { act = act_of r.act; writes = r.writes }

abbrev pub replies_of : Script → List run.Reply
replies_of s = map reply_of s.replies
