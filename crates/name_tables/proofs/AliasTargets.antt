-- The target of an alias line is a use.
use Rattle.std.proofs.Common.{◌≡◌, inl, inr, List, [], ◌∷◌, Some, map, sym, ap, subst, ◌∙◌}
use Rattle.std.specs.Prelude.{flat_map}
use Rattle.std.proofs.lemmas.Grind.{flat_map-append}
use Rattle.ir_core.specs.Lists.{In}
use Rattle.ir_core.proofs.Members.{in_left, in_right, in_cases}
use Rattle.token_reader.specs.declared.raw.RawName.{RawName}
use Rattle.clif_read.specs.declared.raw.RawBlockParam.{RawBlockParam}
use Rattle.clif_read.specs.declared.raw.RawLine.{RawLine}
use Rattle.clif_read.specs.declared.raw.RawLine.TheVariants as line
use Rattle.clif_read.specs.declared.raw.RawBlock.{RawBlock}
use Rattle.name_tables.specs.declared.firsts.Def.{Def}
use Rattle.name_tables.specs.Definitions.{Values, Param, Line, value_def, step_defs, block_steps, defs_of}
use Rattle.name_tables.specs.Uses.{line_uses}

param_targets : (ps : List RawBlockParam) (x : Def) (m : RawName) → In x (defs_of (map Param ps)) → x.target ≡ Some m → ⊥
param_targets [] x m h t = h
param_targets (p ∷ ps) x m (inl e) t = let q = ap (λ (d : Def). d.target) (sym e) ∙ t in cc
param_targets (p ∷ ps) x m (inr h) t = param_targets ps x m h t

result_targets : (rs : List RawName) (x : Def) (m : RawName) → In x (map value_def rs) → x.target ≡ Some m → ⊥
result_targets [] x m h t = h
result_targets (r ∷ rs) x m (inl e) t = let q = ap (λ (d : Def). d.target) (sym e) ∙ t in cc
result_targets (r ∷ rs) x m (inr h) t = result_targets rs x m h t

line_targets : (ls : List RawLine) (x : Def) (m : RawName) → In x (defs_of (map Line ls)) → x.target ≡ Some m → In m (flat_map (line_uses Values) ls)
line_targets [] x m h t = absurd h
line_targets (line.Alias location a b ∷ ls) x m (inl e) t = inl (let q = ap (λ (d : Def). d.target) (sym e) ∙ t in (let s : b ≡ m = cc in sym s))
line_targets (line.Alias location a b ∷ ls) x m (inr h) t = inr (line_targets ls x m h t)
line_targets (line.Inst location tags results inst ∷ ls) x m h t = elim (in_cases x (map value_def results) (defs_of (map Line ls)) h) [
  | inl i ↦ absurd (result_targets results x m i t)
  | inr j ↦ in_right m (line_uses Values (line.Inst location tags results inst)) (flat_map (line_uses Values) ls) (line_targets ls x m j t)
]

pub block_targets : (bs : List RawBlock) (x : Def) (m : RawName) → In x (defs_of (flat_map block_steps bs)) → x.target ≡ Some m → In m (flat_map (line_uses Values) (flat_map (λ (b : RawBlock). b.lines) bs))
block_targets [] x m h t = absurd h
block_targets (b ∷ bs) x m h t =
    let split = flat_map-append step_defs (block_steps b) (flat_map block_steps bs) in
    let parts = flat_map-append step_defs (map Param b.params) (map Line b.lines) in
    rw (flat_map-append (line_uses Values) b.lines (flat_map (λ (b : RawBlock). b.lines) bs))
    (elim (in_cases x (defs_of (block_steps b)) (defs_of (flat_map block_steps bs)) (subst (In x) split h)) [
      | inl i ↦ in_left m (flat_map (line_uses Values) b.lines) (flat_map (line_uses Values) (flat_map (λ (b : RawBlock). b.lines) bs))
          (elim (in_cases x (defs_of (map Param b.params)) (defs_of (map Line b.lines)) (subst (In x) parts i)) [
            | inl j ↦ absurd (param_targets b.params x m j t)
            | inr j ↦ line_targets b.lines x m j t
          ])
      | inr j ↦ in_right m (flat_map (line_uses Values) b.lines) (flat_map (line_uses Values) (flat_map (λ (b : RawBlock). b.lines) bs)) (block_targets bs x m j t)
    ])
