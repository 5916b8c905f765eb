use Rattle.std.proofs.Common.{sym, ap, ◌∙◌}
use Rattle.ir_core.specs.declared.instructions.Inst.TheVariants.{Pure, Jump, Return, Call, ReturnCall, CallIndirect, ReturnCallIndirect}
use Rattle.ir_core.proofs.copies.InstClone.clone.Goals as goal

pub returns-in-Nop : goal.returns-in-Nop
returns-in-Nop c = record { cases = sym c.in-Nop.is }

pub returns-in-SequencePoint : goal.returns-in-SequencePoint
returns-in-SequencePoint c = record { cases = sym c.in-SequencePoint.is }

pub returns-in-Const : goal.returns-in-Const
returns-in-Const c = record { cases = sym c.in-Const.is }

pub returns-in-PureImm : goal.returns-in-PureImm
returns-in-PureImm c = record { cases = sym c.in-PureImm.is }

pub returns-in-FuncAddr : goal.returns-in-FuncAddr
returns-in-FuncAddr c = record { cases = sym c.in-FuncAddr.is }

pub returns-in-Trap : goal.returns-in-Trap
returns-in-Trap c = record { cases = sym c.in-Trap.is }

pub returns-in-Trapz : goal.returns-in-Trapz
returns-in-Trapz c = record { cases = sym c.in-Trapz.is }

pub returns-in-Trapnz : goal.returns-in-Trapnz
returns-in-Trapnz c = record { cases = sym c.in-Trapnz.is }

pub returns-in_ok-clone-in-Pure : goal.returns-in_ok-clone-in-Pure
returns-in_ok-clone-in-Pure c = record { cases = ap (λ args. Pure c.in-Pure.op args) c.in_ok-clone-in-Pure.ensures.cases ∙ sym c.in-Pure.is }

pub returns-in_ok-clone-in-Jump : goal.returns-in_ok-clone-in-Jump
returns-in_ok-clone-in-Jump c = record { cases = ap (Jump) c.in_ok-clone-in-Jump.ensures.cases ∙ sym c.in-Jump.is }

pub returns-in_ok-clone-in-Return : goal.returns-in_ok-clone-in-Return
returns-in_ok-clone-in-Return c = record { cases = ap (Return) c.in_ok-clone-in-Return.ensures.cases ∙ sym c.in-Return.is }

pub returns-in_ok-clone-in-Call : goal.returns-in_ok-clone-in-Call
returns-in_ok-clone-in-Call c = record { cases = ap (λ args. Call c.in-Call.callee args) c.in_ok-clone-in-Call.ensures.cases ∙ sym c.in-Call.is }

pub returns-in_ok-clone-in-ReturnCall : goal.returns-in_ok-clone-in-ReturnCall
returns-in_ok-clone-in-ReturnCall c = record { cases = ap (λ args. ReturnCall c.in-ReturnCall.callee args) c.in_ok-clone-in-ReturnCall.ensures.cases ∙ sym c.in-ReturnCall.is }

pub returns-in_ok-clone-in-CallIndirect : goal.returns-in_ok-clone-in-CallIndirect
returns-in_ok-clone-in-CallIndirect c = record { cases = ap (λ args. CallIndirect c.in-CallIndirect.sig c.in-CallIndirect.address args) c.in_ok-clone-in-CallIndirect.ensures.cases ∙ sym c.in-CallIndirect.is }

pub returns-in_ok-clone-in-ReturnCallIndirect : goal.returns-in_ok-clone-in-ReturnCallIndirect
returns-in_ok-clone-in-ReturnCallIndirect c = record { cases = ap (λ args. ReturnCallIndirect c.in-ReturnCallIndirect.sig c.in-ReturnCallIndirect.address args) c.in_ok-clone-in-ReturnCallIndirect.ensures.cases ∙ sym c.in-ReturnCallIndirect.is }
