use Rattle.std.proofs.Common.{◌≡◌, ℕ, List, [], ◌∷◌, ◌++◌, map, refl, ap, sym, ◌∙◌}
use Rattle.std.proofs.lemmas.List.{map_push}
use Rattle.debug_tags.specs.declared.tags.Tag.{Tag}
use Rattle.ir_core.specs.declared.values.Values.{Values}
use Rattle.ir_core.specs.declared.numbers.FuncRef.{FuncRef}
use Rattle.ir_core.specs.declared.numbers.SigRef.{SigRef}
use Rattle.ir_core.specs.declared.numbers.Value.{Value}
use Rattle.ir_core.specs.declared.instructions.Inst.{Inst}
use Rattle.ir_core.specs.declared.instructions.Inst.TheVariants as inst
use Rattle.ir_core.specs.Module.{Line}
use Rattle.ir_core.specs.Viewed.{instruction_of, line_of}
use Rattle.inline_body.specs.declared.names.Names.{Names}
use Rattle.inline_body.specs.Inlined.{inlined_line, copied_line}
use Rattle.inline_body.proofs.lines.push_inlined.Goals as goal

made_default : (n : Names) (outer : List Tag) (after : ℕ) (results : List ℕ) (l : Line) (i : Inst) → ((x : Values) → i ≡ inst.Return x → ⊥) → ((x : FuncRef) (y : Values) → i ≡ inst.ReturnCall x y → ⊥) → ((x : SigRef) (y : Value) (z : Values) → i ≡ inst.ReturnCallIndirect x y z → ⊥) → inlined_line n outer after results l (instruction_of i) ≡ copied_line n outer l ∷ []
made_default n outer after results l inst.Nop a b d = refl
made_default n outer after results l inst.SequencePoint a b d = refl
made_default n outer after results l (inst.Const x0) a b d = refl
made_default n outer after results l (inst.Pure x0 x1) a b d = refl
made_default n outer after results l (inst.PureImm x0 x1 x2) a b d = refl
made_default n outer after results l (inst.Load x0 x1 x2 x3) a b d = refl
made_default n outer after results l (inst.Store x0 x1 x2 x3 x4) a b d = refl
made_default n outer after results l (inst.StackLoad x0 x1 x2) a b d = refl
made_default n outer after results l (inst.StackStore x0 x1 x2) a b d = refl
made_default n outer after results l (inst.FuncAddr x0) a b d = refl
made_default n outer after results l (inst.Jump x0) a b d = refl
made_default n outer after results l (inst.Brif x0 x1 x2) a b d = refl
made_default n outer after results l (inst.BrTable x0 x1 x2) a b d = refl
made_default n outer after results l (inst.Return x0) a b d = absurd (a x0 refl)
made_default n outer after results l (inst.Trap x0) a b d = refl
made_default n outer after results l (inst.Trapz x0 x1) a b d = refl
made_default n outer after results l (inst.Trapnz x0 x1) a b d = refl
made_default n outer after results l (inst.Call x0 x1) a b d = refl
made_default n outer after results l (inst.ReturnCall x0 x1) a b d = absurd (b x0 x1 refl)
made_default n outer after results l (inst.TryCall x0 x1 x2 x3 x4) a b d = refl
made_default n outer after results l (inst.CallIndirect x0 x1 x2) a b d = refl
made_default n outer after results l (inst.ReturnCallIndirect x0 x1 x2) a b d = absurd (d x0 x1 x2 refl)
made_default n outer after results l (inst.TryCallIndirect x0 x1 x2 x3 x4) a b d = refl

pub returns-in_default : goal.returns-in_default
returns-in_default c = rw (made_default c.args.names.now c.args.outer.now c.args.after c.args.results.now (line_of c.args.line.now) c.args.line.now.inst c.in_default.not-Return c.in_default.not-ReturnCall c.in_default.not-ReturnCallIndirect) c.push_copy.ensures
