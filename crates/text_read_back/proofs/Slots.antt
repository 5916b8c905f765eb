-- Each form is one of an instruction.
use Rattle.std.specs.Prelude.{List}
use Rattle.grammar.specs.Rules.{Opt}
use Rattle.ir_text.specs.TextTree.{Text}
use Rattle.clif_words.specs.declared.class.Class.{Class}
use Rattle.clif_words.specs.Terminals as terms
use Rattle.clif_words.specs.Terminals.{◌then◌}
use Rattle.clif_insts.specs.declared.raw.RawInst.{RawInst}
use Rattle.token_reader.specs.Grammar.{number, suffix, suffix_i64}
use Rattle.clif_insts.specs.Grammar.{any_trap, flags, address, slot_address, target, normal_target, table, args, target_list, inst}
use Rattle.clif_insts.specs.InstValues as v
use Rattle.clif_insts.specs.InstValues.{inst_value}
use Rattle.text_read_back.specs.Bare.{bare_inst}
use Rattle.text_read_back.proofs.Told.{Reads, first_of, past}

-- the text is an instruction where these classes may begin something else, and says this
abbrev pub IsInst : List Class → RawInst → Text → Type 0
IsInst e i t = Reads (inst e) (λ x. bare_inst (inst_value e x)) i t

module _ (e : List Class) {i : RawInst} {t : Text} where
  pub in_iconst : Reads (terms.iconst then suffix then number) (λ x. bare_inst (v.iconst_value x)) i t → IsInst e i t
  in_iconst p = first_of p

  pub in_binary : Reads (terms.binary then Opt suffix then terms.value then terms.comma then terms.value) (λ x. bare_inst (v.binary_value x)) i t → IsInst e i t
  in_binary p = past (first_of p)

  pub in_unary : Reads (terms.unary then Opt suffix then terms.value) (λ x. bare_inst (v.unary_value x)) i t → IsInst e i t
  in_unary p = past (past (first_of p))

  pub in_icmp : Reads (terms.icmp then Opt suffix then terms.condition then terms.value then terms.comma then terms.value) (λ x. bare_inst (v.icmp_value x)) i t → IsInst e i t
  in_icmp p = past (past (past (first_of p)))

  pub in_select : Reads (terms.select then Opt suffix then terms.value then terms.comma then terms.value then terms.comma then terms.value) (λ x. bare_inst (v.select_value x)) i t → IsInst e i t
  in_select p = past (past (past (past (first_of p))))

  pub in_convert : Reads (terms.convert then suffix then terms.value) (λ x. bare_inst (v.convert_value x)) i t → IsInst e i t
  in_convert p = past (past (past (past (past (first_of p)))))

  pub in_binary_imm : Reads (terms.binary_imm then Opt suffix then terms.value then terms.comma then number) (λ x. bare_inst (v.binary_imm_value x)) i t → IsInst e i t
  in_binary_imm p = past (past (past (past (past (past (first_of p))))))

  pub in_icmp_imm : Reads (terms.icmp_imm then Opt suffix then terms.condition then terms.value then terms.comma then number) (λ x. bare_inst (v.icmp_imm_value x)) i t → IsInst e i t
  in_icmp_imm p = past (past (past (past (past (past (past (first_of p)))))))

  pub in_load : Reads (terms.load then suffix then flags then address) (λ x. bare_inst (v.load_value x)) i t → IsInst e i t
  in_load p = past (past (past (past (past (past (past (past (first_of p))))))))

  pub in_load_wide : Reads (terms.load_wide then Opt suffix then flags then address) (λ x. bare_inst (v.load_wide_value x)) i t → IsInst e i t
  in_load_wide p = past (past (past (past (past (past (past (past (past (first_of p)))))))))

  pub in_store : Reads (terms.store then Opt suffix then flags then terms.value then terms.comma then address) (λ x. bare_inst (v.store_value x)) i t → IsInst e i t
  in_store p = past (past (past (past (past (past (past (past (past (past (first_of p))))))))))

  pub in_stack_load : Reads (terms.stack_load then suffix then slot_address) (λ x. bare_inst (v.stack_load_value x)) i t → IsInst e i t
  in_stack_load p = past (past (past (past (past (past (past (past (past (past (past (first_of p)))))))))))

  pub in_stack_store : Reads (terms.stack_store then Opt suffix then terms.value then terms.comma then slot_address) (λ x. bare_inst (v.stack_store_value x)) i t → IsInst e i t
  in_stack_store p = past (past (past (past (past (past (past (past (past (past (past (past (first_of p))))))))))))

  pub in_func_addr : Reads (terms.func_addr then suffix_i64 then terms.callee) (λ x. bare_inst (v.func_addr_value x)) i t → IsInst e i t
  in_func_addr p = past (past (past (past (past (past (past (past (past (past (past (past (past (first_of p)))))))))))))

  pub in_nullary : Reads (terms.nullary) (λ x. bare_inst (v.nullary_value x)) i t → IsInst e i t
  in_nullary p = past (past (past (past (past (past (past (past (past (past (past (past (past (past (first_of p))))))))))))))

  pub in_jump : Reads (terms.jump then target) (λ x. bare_inst (v.jump_value x)) i t → IsInst e i t
  in_jump p = past (past (past (past (past (past (past (past (past (past (past (past (past (past (past (first_of p)))))))))))))))

  pub in_brif : Reads (terms.brif then Opt suffix then terms.value then terms.comma then target then terms.comma then target) (λ x. bare_inst (v.brif_value x)) i t → IsInst e i t
  in_brif p = past (past (past (past (past (past (past (past (past (past (past (past (past (past (past (past (first_of p))))))))))))))))

  pub in_br_table : Reads (terms.br_table then terms.value then terms.comma then target then terms.comma then target_list) (λ x. bare_inst (v.br_table_value x)) i t → IsInst e i t
  in_br_table p = past (past (past (past (past (past (past (past (past (past (past (past (past (past (past (past (past (first_of p)))))))))))))))))

  pub in_return_inst : Reads (terms.return_word) (λ x. bare_inst (v.return_inst_value x)) i t → IsInst e i t
  in_return_inst p = past (past (past (past (past (past (past (past (past (past (past (past (past (past (past (past (past (past (first_of p))))))))))))))))))

  pub in_trap_inst : Reads (terms.trap then any_trap) (λ x. bare_inst (v.trap_inst_value x)) i t → IsInst e i t
  in_trap_inst p = past (past (past (past (past (past (past (past (past (past (past (past (past (past (past (past (past (past (past (first_of p)))))))))))))))))))

  pub in_trap_if : Reads (terms.trap_if then Opt suffix then terms.value then terms.comma then any_trap) (λ x. bare_inst (v.trap_if_value x)) i t → IsInst e i t
  in_trap_if p = past (past (past (past (past (past (past (past (past (past (past (past (past (past (past (past (past (past (past (past (first_of p))))))))))))))))))))

  pub in_call : Reads (terms.call then terms.callee then args) (λ x. bare_inst (v.call_value x)) i t → IsInst e i t
  in_call p = past (past (past (past (past (past (past (past (past (past (past (past (past (past (past (past (past (past (past (past (past (first_of p)))))))))))))))))))))

  pub in_try_call : Reads (terms.try_call then terms.callee then args then terms.comma then terms.sig then terms.comma then normal_target then terms.comma then table) (λ x. bare_inst (v.try_call_value x)) i t → IsInst e i t
  in_try_call p = past (past (past (past (past (past (past (past (past (past (past (past (past (past (past (past (past (past (past (past (past (past (first_of p))))))))))))))))))))))

  pub in_call_indirect : Reads (terms.call_indirect then Opt suffix_i64 then terms.sig then terms.comma then terms.value then args) (λ x. bare_inst (v.call_indirect_value x)) i t → IsInst e i t
  in_call_indirect p = past (past (past (past (past (past (past (past (past (past (past (past (past (past (past (past (past (past (past (past (past (past (past (first_of p)))))))))))))))))))))))

  pub in_try_call_indirect : Reads (terms.try_call_indirect then Opt suffix_i64 then terms.value then args then terms.comma then terms.sig then terms.comma then normal_target then terms.comma then table) (λ x. bare_inst (v.try_call_indirect_value x)) i t → IsInst e i t
  in_try_call_indirect p = past (past (past (past (past (past (past (past (past (past (past (past (past (past (past (past (past (past (past (past (past (past (past (past (first_of p))))))))))))))))))))))))
