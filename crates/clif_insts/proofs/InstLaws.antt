-- An instruction is read as the grammar says.
use Rattle.std.proofs.Common.{◌≡◌, ℕ, Bool, true, false, cond, List, [], ◌∷◌, None, Ok, Err, refl, ◌∙◌}
use Rattle.grammar.specs.Rules.{Lexeme, Opt, Refuse, UnknownOpcode, Unsupported, Syntax, Out, ◌>>=◌}
use Rattle.clif_words.specs.declared.class.Class.TheVariants as classes
use Rattle.clif_insts.specs.declared.opening.Opening.{Opening}
use Rattle.clif_insts.specs.declared.opening.Opening.TheVariants.{AfterResults}
use Rattle.clif_insts.specs.declared.raw.RawInst.{RawInst}
use Rattle.clif_insts.specs.declared.raw.RawOperands.TheVariants as operands
use Rattle.clif_words.specs.Terminals.{◌or◌, refused, value}
use Rattle.token_reader.specs.Grammar.{commas}
use Rattle.clif_insts.specs.Grammar.{excepted, words_but, inst, return_values, whole_inst}
use Rattle.token_reader.specs.Reading.{next_is, name, refuse, refuse_codes}
use Rattle.token_reader.specs.Values.{◌otherwise◌, perhaps, never, commas_value}
use Rattle.clif_insts.specs.InstValues.{raw, inst_value, return_values_value, whole_value}
use Rattle.clif_insts.specs.Forms.{inst_at, opt_values_at, return_values_at, whole_at}
use Rattle.token_reader.proofs.Seen.{Is, then_is, map_is, opt_is, alt_is, refuse_is, refuse_codes_is, opcode_is}
use Rattle.clif_insts.proofs.PartLaws.{values_is}
use Rattle.clif_insts.proofs.FormLaws.{iconst_is, binary_is, unary_is, icmp_is, select_is, convert_is, binary_imm_is, icmp_imm_is, load_is, load_wide_is, store_is, stack_load_is, stack_store_is, func_addr_is, nullary_is, jump_is, brif_is}
use Rattle.clif_insts.proofs.CallLaws.{br_table_is, return_inst_is, trap_inst_is, trap_if_is, call_is, try_call_is, call_indirect_is, try_call_indirect_is}

-- words that are no opcodes here
refusing : (b : Bool) (ts : List Lexeme) (rest : Out RawInst) → cond b (Err (Unsupported, ts)) rest ≡ cond b (Err (cond b Unsupported Syntax, ts)) rest
refusing true ts rest = refl
refusing false ts rest = refl

refused_is : (words : List ℕ) → Is (refused (classes.RefusedOpcode ∷ []) Unsupported or Refuse words UnknownOpcode) (never otherwise never)
    (λ ts. cond (next_is classes.RefusedOpcode ts) (Err (Unsupported, ts)) (refuse_codes {A = RawInst} words UnknownOpcode ts))
refused_is words = record { same = λ ts. refusing (next_is classes.RefusedOpcode ts) ts (refuse_codes words UnknownOpcode ts) ∙ whole.same ts }
  where
    whole : Is (refused (classes.RefusedOpcode ∷ []) Unsupported or Refuse words UnknownOpcode) (never otherwise never)
        (λ ts. cond (next_is classes.RefusedOpcode ts) (refuse {A = RawInst} (classes.RefusedOpcode ∷ []) Unsupported ts) (refuse_codes words UnknownOpcode ts))
    whole = alt_is (refuse_is (classes.RefusedOpcode ∷ []) Unsupported never) (refuse_codes_is words UnknownOpcode never)

opt_values_is : Is (Opt (commas value)) (perhaps [] (commas_value value name)) opt_values_at
unfolding opt_values_at
opt_values_is = opt_is values_is []

return_values_is : Is return_values return_values_value return_values_at
unfolding return_values_at
return_values_is =
    then_is (opcode_is classes.Return) (Opt (commas value)) (λ opcode v. raw opcode None (operands.Return (perhaps [] (commas_value value name) v)))
    (λ opcode ts. opt_values_at ts >>= λ vs. Ok (raw opcode None (operands.Return vs.0), vs.1))
    (λ opcode. map_is opt_values_is (λ vs. raw opcode None (operands.Return vs)))

pub inst_is : (opening : Opening) → Is (inst (excepted opening)) (inst_value (excepted opening)) (inst_at opening)
unfolding inst_at
inst_is opening =
    alt_is iconst_is
    (alt_is binary_is
    (alt_is unary_is
    (alt_is icmp_is
    (alt_is select_is
    (alt_is convert_is
    (alt_is binary_imm_is
    (alt_is icmp_imm_is
    (alt_is load_is
    (alt_is load_wide_is
    (alt_is store_is
    (alt_is stack_load_is
    (alt_is stack_store_is
    (alt_is func_addr_is
    (alt_is nullary_is
    (alt_is jump_is
    (alt_is brif_is
    (alt_is br_table_is
    (alt_is return_inst_is
    (alt_is trap_inst_is
    (alt_is trap_if_is
    (alt_is call_is
    (alt_is try_call_is
    (alt_is call_indirect_is
    (alt_is try_call_indirect_is
    (refused_is (words_but (excepted opening)))))))))))))))))))))))))))

pub whole_is : Is whole_inst whole_value whole_at
unfolding whole_at
whole_is =
    alt_is iconst_is
    (alt_is binary_is
    (alt_is unary_is
    (alt_is icmp_is
    (alt_is select_is
    (alt_is convert_is
    (alt_is binary_imm_is
    (alt_is icmp_imm_is
    (alt_is load_is
    (alt_is load_wide_is
    (alt_is store_is
    (alt_is stack_load_is
    (alt_is stack_store_is
    (alt_is func_addr_is
    (alt_is nullary_is
    (alt_is jump_is
    (alt_is brif_is
    (alt_is br_table_is
    (alt_is return_values_is
    (alt_is trap_inst_is
    (alt_is trap_if_is
    (alt_is call_is
    (alt_is try_call_is
    (alt_is call_indirect_is
    (alt_is try_call_indirect_is
    (refused_is (words_but (excepted AfterResults)))))))))))))))))))))))))))
