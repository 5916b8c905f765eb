-- Each form is read as its rule of the grammar says.
use Rattle.std.proofs.Common.{Some, None, Ok}
use Rattle.grammar.specs.Rules.{Opt, read, ◌>>=◌}
use Rattle.clif_words.specs.declared.class.Class.TheVariants as classes
use Rattle.clif_insts.specs.declared.targets.TargetRole.TheVariants as roles
use Rattle.clif_insts.specs.declared.raw.RawOperands.TheVariants as operands
use Rattle.clif_words.specs.Terminals.{◌then◌, signed, value, comma, condition, slot, callee, iconst, binary, unary, icmp, select, convert, binary_imm, icmp_imm, load, load_wide, store, stack_load, stack_store, func_addr, nullary, jump, brif}
use Rattle.token_reader.specs.Grammar.{number, suffix, suffix_i64}
use Rattle.clif_insts.specs.Grammar.{flags, target}
use Rattle.token_reader.specs.Reading.{name, name_at}
use Rattle.token_reader.specs.Types.{suffix_at, opt_suffix_at, suffix_i64_at}
use Rattle.clif_insts.specs.Targets.{target_at}
use Rattle.token_reader.specs.Numbers.{number_at, offset_at}
use Rattle.clif_insts.specs.Flags.{flags_at}
use Rattle.token_reader.specs.Values.{seen, suffix_value, opt_suffix_value, number_value, offset_value}
use Rattle.clif_insts.specs.Values.{condition_value, flags_value, branch_value}
use Rattle.clif_insts.specs.InstValues.{raw, iconst_value, binary_value, unary_value, icmp_value, select_value, convert_value, binary_imm_value, icmp_imm_value, load_value, load_wide_value, store_value, stack_load_value, stack_store_value, func_addr_value, nullary_value, jump_value, brif_value}
use Rattle.clif_insts.specs.Forms.{iconst_at, binary_at, unary_at, icmp_at, select_at, convert_at, binary_imm_at, icmp_imm_at, load_at, load_wide_at, store_at, stack_load_at, stack_store_at, func_addr_at, nullary_at, jump_at, brif_at}
use Rattle.token_reader.proofs.Seen.{Is, rule_is, then_is, map_is, name_is, opcode_is}
use Rattle.token_reader.proofs.TypeLaws.{suffix_is, opt_suffix_is, suffix_i64_is, number_is, offset_is}
use Rattle.clif_insts.proofs.PartLaws.{branch_is}
use Rattle.clif_insts.proofs.FlagLaws.{flags_is}

pub iconst_is : Is (iconst then suffix then number) iconst_value iconst_at
unfolding iconst_at
iconst_is =
    then_is (opcode_is classes.Iconst) (suffix then number) (λ opcode v. raw opcode (Some (suffix_value v.0)) (operands.Number (number_value v.1)))
    (λ opcode ts. suffix_at ts >>= λ the_suffix. number_at the_suffix.1 >>= λ the_number. Ok (raw opcode (Some the_suffix.0) (operands.Number the_number.0), the_number.1))
    (λ opcode. then_is (suffix_is) number (λ the_suffix v. raw opcode (Some the_suffix) (operands.Number (number_value v)))
    (λ the_suffix ts. number_at ts >>= λ the_number. Ok (raw opcode (Some the_suffix) (operands.Number the_number.0), the_number.1))
    (λ the_suffix. map_is (number_is) (λ the_number. raw opcode (Some the_suffix) (operands.Number the_number))))

pub binary_is : Is (binary then Opt suffix then value then comma then value) binary_value binary_at
unfolding binary_at
binary_is =
    then_is (opcode_is classes.Binary) (Opt suffix then value then comma then value) (λ opcode v. raw opcode (opt_suffix_value v.0) (operands.Binary (name v.1.0) (name v.1.1.1)))
    (λ opcode ts. opt_suffix_at ts >>= λ the_suffix. name_at classes.Value the_suffix.1 >>= λ x. name_at classes.Comma x.1 >>= λ s2. name_at classes.Value s2.1 >>= λ y. Ok (raw opcode the_suffix.0 (operands.Binary x.0 y.0), y.1))
    (λ opcode. then_is (opt_suffix_is) (value then comma then value) (λ the_suffix v. raw opcode the_suffix (operands.Binary (name v.0) (name v.1.1)))
    (λ the_suffix ts. name_at classes.Value ts >>= λ x. name_at classes.Comma x.1 >>= λ s2. name_at classes.Value s2.1 >>= λ y. Ok (raw opcode the_suffix (operands.Binary x.0 y.0), y.1))
    (λ the_suffix. then_is (name_is classes.Value) (comma then value) (λ x v. raw opcode the_suffix (operands.Binary x (name v.1)))
    (λ x ts. name_at classes.Comma ts >>= λ s2. name_at classes.Value s2.1 >>= λ y. Ok (raw opcode the_suffix (operands.Binary x y.0), y.1))
    (λ x. then_is (name_is classes.Comma) value (λ s2 v. raw opcode the_suffix (operands.Binary x (name v)))
    (λ s2 ts. name_at classes.Value ts >>= λ y. Ok (raw opcode the_suffix (operands.Binary x y.0), y.1))
    (λ s2. map_is (name_is classes.Value) (λ y. raw opcode the_suffix (operands.Binary x y))))))

pub unary_is : Is (unary then Opt suffix then value) unary_value unary_at
unfolding unary_at
unary_is =
    then_is (opcode_is classes.Unary) (Opt suffix then value) (λ opcode v. raw opcode (opt_suffix_value v.0) (operands.Unary (name v.1)))
    (λ opcode ts. opt_suffix_at ts >>= λ the_suffix. name_at classes.Value the_suffix.1 >>= λ x. Ok (raw opcode the_suffix.0 (operands.Unary x.0), x.1))
    (λ opcode. then_is (opt_suffix_is) value (λ the_suffix v. raw opcode the_suffix (operands.Unary (name v)))
    (λ the_suffix ts. name_at classes.Value ts >>= λ x. Ok (raw opcode the_suffix (operands.Unary x.0), x.1))
    (λ the_suffix. map_is (name_is classes.Value) (λ x. raw opcode the_suffix (operands.Unary x))))

pub icmp_is : Is (icmp then Opt suffix then condition then value then comma then value) icmp_value icmp_at
unfolding icmp_at
icmp_is =
    then_is (opcode_is classes.Icmp) (Opt suffix then condition then value then comma then value) (λ opcode v. raw opcode (opt_suffix_value v.0) (operands.Compare (condition_value v.1.0) (name v.1.1.0) (name v.1.1.1.1)))
    (λ opcode ts. opt_suffix_at ts >>= λ the_suffix. seen condition_value (read condition the_suffix.1) >>= λ the_condition. name_at classes.Value the_condition.1 >>= λ x. name_at classes.Comma x.1 >>= λ s3. name_at classes.Value s3.1 >>= λ y. Ok (raw opcode the_suffix.0 (operands.Compare the_condition.0 x.0 y.0), y.1))
    (λ opcode. then_is (opt_suffix_is) (condition then value then comma then value) (λ the_suffix v. raw opcode the_suffix (operands.Compare (condition_value v.0) (name v.1.0) (name v.1.1.1)))
    (λ the_suffix ts. seen condition_value (read condition ts) >>= λ the_condition. name_at classes.Value the_condition.1 >>= λ x. name_at classes.Comma x.1 >>= λ s3. name_at classes.Value s3.1 >>= λ y. Ok (raw opcode the_suffix (operands.Compare the_condition.0 x.0 y.0), y.1))
    (λ the_suffix. then_is (rule_is condition condition_value) (value then comma then value) (λ the_condition v. raw opcode the_suffix (operands.Compare the_condition (name v.0) (name v.1.1)))
    (λ the_condition ts. name_at classes.Value ts >>= λ x. name_at classes.Comma x.1 >>= λ s3. name_at classes.Value s3.1 >>= λ y. Ok (raw opcode the_suffix (operands.Compare the_condition x.0 y.0), y.1))
    (λ the_condition. then_is (name_is classes.Value) (comma then value) (λ x v. raw opcode the_suffix (operands.Compare the_condition x (name v.1)))
    (λ x ts. name_at classes.Comma ts >>= λ s3. name_at classes.Value s3.1 >>= λ y. Ok (raw opcode the_suffix (operands.Compare the_condition x y.0), y.1))
    (λ x. then_is (name_is classes.Comma) value (λ s3 v. raw opcode the_suffix (operands.Compare the_condition x (name v)))
    (λ s3 ts. name_at classes.Value ts >>= λ y. Ok (raw opcode the_suffix (operands.Compare the_condition x y.0), y.1))
    (λ s3. map_is (name_is classes.Value) (λ y. raw opcode the_suffix (operands.Compare the_condition x y)))))))

pub select_is : Is (select then Opt suffix then value then comma then value then comma then value) select_value select_at
unfolding select_at
select_is =
    then_is (opcode_is classes.Select) (Opt suffix then value then comma then value then comma then value) (λ opcode v. raw opcode (opt_suffix_value v.0) (operands.Ternary (name v.1.0) (name v.1.1.1.0) (name v.1.1.1.1.1)))
    (λ opcode ts. opt_suffix_at ts >>= λ the_suffix. name_at classes.Value the_suffix.1 >>= λ x. name_at classes.Comma x.1 >>= λ s2. name_at classes.Value s2.1 >>= λ y. name_at classes.Comma y.1 >>= λ s4. name_at classes.Value s4.1 >>= λ z. Ok (raw opcode the_suffix.0 (operands.Ternary x.0 y.0 z.0), z.1))
    (λ opcode. then_is (opt_suffix_is) (value then comma then value then comma then value) (λ the_suffix v. raw opcode the_suffix (operands.Ternary (name v.0) (name v.1.1.0) (name v.1.1.1.1)))
    (λ the_suffix ts. name_at classes.Value ts >>= λ x. name_at classes.Comma x.1 >>= λ s2. name_at classes.Value s2.1 >>= λ y. name_at classes.Comma y.1 >>= λ s4. name_at classes.Value s4.1 >>= λ z. Ok (raw opcode the_suffix (operands.Ternary x.0 y.0 z.0), z.1))
    (λ the_suffix. then_is (name_is classes.Value) (comma then value then comma then value) (λ x v. raw opcode the_suffix (operands.Ternary x (name v.1.0) (name v.1.1.1)))
    (λ x ts. name_at classes.Comma ts >>= λ s2. name_at classes.Value s2.1 >>= λ y. name_at classes.Comma y.1 >>= λ s4. name_at classes.Value s4.1 >>= λ z. Ok (raw opcode the_suffix (operands.Ternary x y.0 z.0), z.1))
    (λ x. then_is (name_is classes.Comma) (value then comma then value) (λ s2 v. raw opcode the_suffix (operands.Ternary x (name v.0) (name v.1.1)))
    (λ s2 ts. name_at classes.Value ts >>= λ y. name_at classes.Comma y.1 >>= λ s4. name_at classes.Value s4.1 >>= λ z. Ok (raw opcode the_suffix (operands.Ternary x y.0 z.0), z.1))
    (λ s2. then_is (name_is classes.Value) (comma then value) (λ y v. raw opcode the_suffix (operands.Ternary x y (name v.1)))
    (λ y ts. name_at classes.Comma ts >>= λ s4. name_at classes.Value s4.1 >>= λ z. Ok (raw opcode the_suffix (operands.Ternary x y z.0), z.1))
    (λ y. then_is (name_is classes.Comma) value (λ s4 v. raw opcode the_suffix (operands.Ternary x y (name v)))
    (λ s4 ts. name_at classes.Value ts >>= λ z. Ok (raw opcode the_suffix (operands.Ternary x y z.0), z.1))
    (λ s4. map_is (name_is classes.Value) (λ z. raw opcode the_suffix (operands.Ternary x y z))))))))

pub convert_is : Is (convert then suffix then value) convert_value convert_at
unfolding convert_at
convert_is =
    then_is (opcode_is classes.Convert) (suffix then value) (λ opcode v. raw opcode (Some (suffix_value v.0)) (operands.Unary (name v.1)))
    (λ opcode ts. suffix_at ts >>= λ the_suffix. name_at classes.Value the_suffix.1 >>= λ x. Ok (raw opcode (Some the_suffix.0) (operands.Unary x.0), x.1))
    (λ opcode. then_is (suffix_is) value (λ the_suffix v. raw opcode (Some the_suffix) (operands.Unary (name v)))
    (λ the_suffix ts. name_at classes.Value ts >>= λ x. Ok (raw opcode (Some the_suffix) (operands.Unary x.0), x.1))
    (λ the_suffix. map_is (name_is classes.Value) (λ x. raw opcode (Some the_suffix) (operands.Unary x))))

pub binary_imm_is : Is (binary_imm then Opt suffix then value then comma then number) binary_imm_value binary_imm_at
unfolding binary_imm_at
binary_imm_is =
    then_is (opcode_is classes.BinaryImm) (Opt suffix then value then comma then number) (λ opcode v. raw opcode (opt_suffix_value v.0) (operands.BinaryImm (name v.1.0) (number_value v.1.1.1)))
    (λ opcode ts. opt_suffix_at ts >>= λ the_suffix. name_at classes.Value the_suffix.1 >>= λ x. name_at classes.Comma x.1 >>= λ s2. number_at s2.1 >>= λ the_number. Ok (raw opcode the_suffix.0 (operands.BinaryImm x.0 the_number.0), the_number.1))
    (λ opcode. then_is (opt_suffix_is) (value then comma then number) (λ the_suffix v. raw opcode the_suffix (operands.BinaryImm (name v.0) (number_value v.1.1)))
    (λ the_suffix ts. name_at classes.Value ts >>= λ x. name_at classes.Comma x.1 >>= λ s2. number_at s2.1 >>= λ the_number. Ok (raw opcode the_suffix (operands.BinaryImm x.0 the_number.0), the_number.1))
    (λ the_suffix. then_is (name_is classes.Value) (comma then number) (λ x v. raw opcode the_suffix (operands.BinaryImm x (number_value v.1)))
    (λ x ts. name_at classes.Comma ts >>= λ s2. number_at s2.1 >>= λ the_number. Ok (raw opcode the_suffix (operands.BinaryImm x the_number.0), the_number.1))
    (λ x. then_is (name_is classes.Comma) number (λ s2 v. raw opcode the_suffix (operands.BinaryImm x (number_value v)))
    (λ s2 ts. number_at ts >>= λ the_number. Ok (raw opcode the_suffix (operands.BinaryImm x the_number.0), the_number.1))
    (λ s2. map_is (number_is) (λ the_number. raw opcode the_suffix (operands.BinaryImm x the_number))))))

pub icmp_imm_is : Is (icmp_imm then Opt suffix then condition then value then comma then number) icmp_imm_value icmp_imm_at
unfolding icmp_imm_at
icmp_imm_is =
    then_is (opcode_is classes.IcmpImm) (Opt suffix then condition then value then comma then number) (λ opcode v. raw opcode (opt_suffix_value v.0) (operands.CompareImm (condition_value v.1.0) (name v.1.1.0) (number_value v.1.1.1.1)))
    (λ opcode ts. opt_suffix_at ts >>= λ the_suffix. seen condition_value (read condition the_suffix.1) >>= λ the_condition. name_at classes.Value the_condition.1 >>= λ x. name_at classes.Comma x.1 >>= λ s3. number_at s3.1 >>= λ the_number. Ok (raw opcode the_suffix.0 (operands.CompareImm the_condition.0 x.0 the_number.0), the_number.1))
    (λ opcode. then_is (opt_suffix_is) (condition then value then comma then number) (λ the_suffix v. raw opcode the_suffix (operands.CompareImm (condition_value v.0) (name v.1.0) (number_value v.1.1.1)))
    (λ the_suffix ts. seen condition_value (read condition ts) >>= λ the_condition. name_at classes.Value the_condition.1 >>= λ x. name_at classes.Comma x.1 >>= λ s3. number_at s3.1 >>= λ the_number. Ok (raw opcode the_suffix (operands.CompareImm the_condition.0 x.0 the_number.0), the_number.1))
    (λ the_suffix. then_is (rule_is condition condition_value) (value then comma then number) (λ the_condition v. raw opcode the_suffix (operands.CompareImm the_condition (name v.0) (number_value v.1.1)))
    (λ the_condition ts. name_at classes.Value ts >>= λ x. name_at classes.Comma x.1 >>= λ s3. number_at s3.1 >>= λ the_number. Ok (raw opcode the_suffix (operands.CompareImm the_condition x.0 the_number.0), the_number.1))
    (λ the_condition. then_is (name_is classes.Value) (comma then number) (λ x v. raw opcode the_suffix (operands.CompareImm the_condition x (number_value v.1)))
    (λ x ts. name_at classes.Comma ts >>= λ s3. number_at s3.1 >>= λ the_number. Ok (raw opcode the_suffix (operands.CompareImm the_condition x the_number.0), the_number.1))
    (λ x. then_is (name_is classes.Comma) number (λ s3 v. raw opcode the_suffix (operands.CompareImm the_condition x (number_value v)))
    (λ s3 ts. number_at ts >>= λ the_number. Ok (raw opcode the_suffix (operands.CompareImm the_condition x the_number.0), the_number.1))
    (λ s3. map_is (number_is) (λ the_number. raw opcode the_suffix (operands.CompareImm the_condition x the_number)))))))

pub load_is : Is (load then suffix then flags then value then Opt signed) load_value load_at
unfolding load_at
load_is =
    then_is (opcode_is classes.Load) (suffix then flags then value then Opt signed) (λ opcode v. raw opcode (Some (suffix_value v.0)) (operands.Load (flags_value v.1.0) (name v.1.1.0) (offset_value v.1.1.1)))
    (λ opcode ts. suffix_at ts >>= λ the_suffix. flags_at the_suffix.1 >>= λ the_flags. name_at classes.Value the_flags.1 >>= λ address. offset_at address.1 >>= λ offset. Ok (raw opcode (Some the_suffix.0) (operands.Load the_flags.0 address.0 offset.0), offset.1))
    (λ opcode. then_is (suffix_is) (flags then value then Opt signed) (λ the_suffix v. raw opcode (Some the_suffix) (operands.Load (flags_value v.0) (name v.1.0) (offset_value v.1.1)))
    (λ the_suffix ts. flags_at ts >>= λ the_flags. name_at classes.Value the_flags.1 >>= λ address. offset_at address.1 >>= λ offset. Ok (raw opcode (Some the_suffix) (operands.Load the_flags.0 address.0 offset.0), offset.1))
    (λ the_suffix. then_is (flags_is) (value then Opt signed) (λ the_flags v. raw opcode (Some the_suffix) (operands.Load the_flags (name v.0) (offset_value v.1)))
    (λ the_flags ts. name_at classes.Value ts >>= λ address. offset_at address.1 >>= λ offset. Ok (raw opcode (Some the_suffix) (operands.Load the_flags address.0 offset.0), offset.1))
    (λ the_flags. then_is (name_is classes.Value) (Opt signed) (λ address v. raw opcode (Some the_suffix) (operands.Load the_flags address (offset_value v)))
    (λ address ts. offset_at ts >>= λ offset. Ok (raw opcode (Some the_suffix) (operands.Load the_flags address offset.0), offset.1))
    (λ address. map_is (offset_is) (λ offset. raw opcode (Some the_suffix) (operands.Load the_flags address offset))))))

pub load_wide_is : Is (load_wide then Opt suffix then flags then value then Opt signed) load_wide_value load_wide_at
unfolding load_wide_at
load_wide_is =
    then_is (opcode_is classes.LoadWide) (Opt suffix then flags then value then Opt signed) (λ opcode v. raw opcode (opt_suffix_value v.0) (operands.Load (flags_value v.1.0) (name v.1.1.0) (offset_value v.1.1.1)))
    (λ opcode ts. opt_suffix_at ts >>= λ the_suffix. flags_at the_suffix.1 >>= λ the_flags. name_at classes.Value the_flags.1 >>= λ address. offset_at address.1 >>= λ offset. Ok (raw opcode the_suffix.0 (operands.Load the_flags.0 address.0 offset.0), offset.1))
    (λ opcode. then_is (opt_suffix_is) (flags then value then Opt signed) (λ the_suffix v. raw opcode the_suffix (operands.Load (flags_value v.0) (name v.1.0) (offset_value v.1.1)))
    (λ the_suffix ts. flags_at ts >>= λ the_flags. name_at classes.Value the_flags.1 >>= λ address. offset_at address.1 >>= λ offset. Ok (raw opcode the_suffix (operands.Load the_flags.0 address.0 offset.0), offset.1))
    (λ the_suffix. then_is (flags_is) (value then Opt signed) (λ the_flags v. raw opcode the_suffix (operands.Load the_flags (name v.0) (offset_value v.1)))
    (λ the_flags ts. name_at classes.Value ts >>= λ address. offset_at address.1 >>= λ offset. Ok (raw opcode the_suffix (operands.Load the_flags address.0 offset.0), offset.1))
    (λ the_flags. then_is (name_is classes.Value) (Opt signed) (λ address v. raw opcode the_suffix (operands.Load the_flags address (offset_value v)))
    (λ address ts. offset_at ts >>= λ offset. Ok (raw opcode the_suffix (operands.Load the_flags address offset.0), offset.1))
    (λ address. map_is (offset_is) (λ offset. raw opcode the_suffix (operands.Load the_flags address offset))))))

pub store_is : Is (store then Opt suffix then flags then value then comma then value then Opt signed) store_value store_at
unfolding store_at
store_is =
    then_is (opcode_is classes.Store) (Opt suffix then flags then value then comma then value then Opt signed) (λ opcode v. raw opcode (opt_suffix_value v.0) (operands.Store (flags_value v.1.0) (name v.1.1.0) (name v.1.1.1.1.0) (offset_value v.1.1.1.1.1)))
    (λ opcode ts. opt_suffix_at ts >>= λ the_suffix. flags_at the_suffix.1 >>= λ the_flags. name_at classes.Value the_flags.1 >>= λ the_value. name_at classes.Comma the_value.1 >>= λ s3. name_at classes.Value s3.1 >>= λ address. offset_at address.1 >>= λ offset. Ok (raw opcode the_suffix.0 (operands.Store the_flags.0 the_value.0 address.0 offset.0), offset.1))
    (λ opcode. then_is (opt_suffix_is) (flags then value then comma then value then Opt signed) (λ the_suffix v. raw opcode the_suffix (operands.Store (flags_value v.0) (name v.1.0) (name v.1.1.1.0) (offset_value v.1.1.1.1)))
    (λ the_suffix ts. flags_at ts >>= λ the_flags. name_at classes.Value the_flags.1 >>= λ the_value. name_at classes.Comma the_value.1 >>= λ s3. name_at classes.Value s3.1 >>= λ address. offset_at address.1 >>= λ offset. Ok (raw opcode the_suffix (operands.Store the_flags.0 the_value.0 address.0 offset.0), offset.1))
    (λ the_suffix. then_is (flags_is) (value then comma then value then Opt signed) (λ the_flags v. raw opcode the_suffix (operands.Store the_flags (name v.0) (name v.1.1.0) (offset_value v.1.1.1)))
    (λ the_flags ts. name_at classes.Value ts >>= λ the_value. name_at classes.Comma the_value.1 >>= λ s3. name_at classes.Value s3.1 >>= λ address. offset_at address.1 >>= λ offset. Ok (raw opcode the_suffix (operands.Store the_flags the_value.0 address.0 offset.0), offset.1))
    (λ the_flags. then_is (name_is classes.Value) (comma then value then Opt signed) (λ the_value v. raw opcode the_suffix (operands.Store the_flags the_value (name v.1.0) (offset_value v.1.1)))
    (λ the_value ts. name_at classes.Comma ts >>= λ s3. name_at classes.Value s3.1 >>= λ address. offset_at address.1 >>= λ offset. Ok (raw opcode the_suffix (operands.Store the_flags the_value address.0 offset.0), offset.1))
    (λ the_value. then_is (name_is classes.Comma) (value then Opt signed) (λ s3 v. raw opcode the_suffix (operands.Store the_flags the_value (name v.0) (offset_value v.1)))
    (λ s3 ts. name_at classes.Value ts >>= λ address. offset_at address.1 >>= λ offset. Ok (raw opcode the_suffix (operands.Store the_flags the_value address.0 offset.0), offset.1))
    (λ s3. then_is (name_is classes.Value) (Opt signed) (λ address v. raw opcode the_suffix (operands.Store the_flags the_value address (offset_value v)))
    (λ address ts. offset_at ts >>= λ offset. Ok (raw opcode the_suffix (operands.Store the_flags the_value address offset.0), offset.1))
    (λ address. map_is (offset_is) (λ offset. raw opcode the_suffix (operands.Store the_flags the_value address offset))))))))

pub stack_load_is : Is (stack_load then suffix then slot then Opt signed) stack_load_value stack_load_at
unfolding stack_load_at
stack_load_is =
    then_is (opcode_is classes.StackLoad) (suffix then slot then Opt signed) (λ opcode v. raw opcode (Some (suffix_value v.0)) (operands.StackLoad (name v.1.0) (offset_value v.1.1)))
    (λ opcode ts. suffix_at ts >>= λ the_suffix. name_at classes.Slot the_suffix.1 >>= λ the_slot. offset_at the_slot.1 >>= λ offset. Ok (raw opcode (Some the_suffix.0) (operands.StackLoad the_slot.0 offset.0), offset.1))
    (λ opcode. then_is (suffix_is) (slot then Opt signed) (λ the_suffix v. raw opcode (Some the_suffix) (operands.StackLoad (name v.0) (offset_value v.1)))
    (λ the_suffix ts. name_at classes.Slot ts >>= λ the_slot. offset_at the_slot.1 >>= λ offset. Ok (raw opcode (Some the_suffix) (operands.StackLoad the_slot.0 offset.0), offset.1))
    (λ the_suffix. then_is (name_is classes.Slot) (Opt signed) (λ the_slot v. raw opcode (Some the_suffix) (operands.StackLoad the_slot (offset_value v)))
    (λ the_slot ts. offset_at ts >>= λ offset. Ok (raw opcode (Some the_suffix) (operands.StackLoad the_slot offset.0), offset.1))
    (λ the_slot. map_is (offset_is) (λ offset. raw opcode (Some the_suffix) (operands.StackLoad the_slot offset)))))

pub stack_store_is : Is (stack_store then Opt suffix then value then comma then slot then Opt signed) stack_store_value stack_store_at
unfolding stack_store_at
stack_store_is =
    then_is (opcode_is classes.StackStore) (Opt suffix then value then comma then slot then Opt signed) (λ opcode v. raw opcode (opt_suffix_value v.0) (operands.StackStore (name v.1.0) (name v.1.1.1.0) (offset_value v.1.1.1.1)))
    (λ opcode ts. opt_suffix_at ts >>= λ the_suffix. name_at classes.Value the_suffix.1 >>= λ the_value. name_at classes.Comma the_value.1 >>= λ s2. name_at classes.Slot s2.1 >>= λ the_slot. offset_at the_slot.1 >>= λ offset. Ok (raw opcode the_suffix.0 (operands.StackStore the_value.0 the_slot.0 offset.0), offset.1))
    (λ opcode. then_is (opt_suffix_is) (value then comma then slot then Opt signed) (λ the_suffix v. raw opcode the_suffix (operands.StackStore (name v.0) (name v.1.1.0) (offset_value v.1.1.1)))
    (λ the_suffix ts. name_at classes.Value ts >>= λ the_value. name_at classes.Comma the_value.1 >>= λ s2. name_at classes.Slot s2.1 >>= λ the_slot. offset_at the_slot.1 >>= λ offset. Ok (raw opcode the_suffix (operands.StackStore the_value.0 the_slot.0 offset.0), offset.1))
    (λ the_suffix. then_is (name_is classes.Value) (comma then slot then Opt signed) (λ the_value v. raw opcode the_suffix (operands.StackStore the_value (name v.1.0) (offset_value v.1.1)))
    (λ the_value ts. name_at classes.Comma ts >>= λ s2. name_at classes.Slot s2.1 >>= λ the_slot. offset_at the_slot.1 >>= λ offset. Ok (raw opcode the_suffix (operands.StackStore the_value the_slot.0 offset.0), offset.1))
    (λ the_value. then_is (name_is classes.Comma) (slot then Opt signed) (λ s2 v. raw opcode the_suffix (operands.StackStore the_value (name v.0) (offset_value v.1)))
    (λ s2 ts. name_at classes.Slot ts >>= λ the_slot. offset_at the_slot.1 >>= λ offset. Ok (raw opcode the_suffix (operands.StackStore the_value the_slot.0 offset.0), offset.1))
    (λ s2. then_is (name_is classes.Slot) (Opt signed) (λ the_slot v. raw opcode the_suffix (operands.StackStore the_value the_slot (offset_value v)))
    (λ the_slot ts. offset_at ts >>= λ offset. Ok (raw opcode the_suffix (operands.StackStore the_value the_slot offset.0), offset.1))
    (λ the_slot. map_is (offset_is) (λ offset. raw opcode the_suffix (operands.StackStore the_value the_slot offset)))))))

pub func_addr_is : Is (func_addr then suffix_i64 then callee) func_addr_value func_addr_at
unfolding func_addr_at
func_addr_is =
    then_is (opcode_is classes.FuncAddr) (suffix_i64 then callee) (λ opcode v. raw opcode None (operands.FuncAddr (name v.1)))
    (λ opcode ts. suffix_i64_at ts >>= λ s0. name_at classes.Callee s0.1 >>= λ the_callee. Ok (raw opcode None (operands.FuncAddr the_callee.0), the_callee.1))
    (λ opcode. then_is (suffix_i64_is) callee (λ s0 v. raw opcode None (operands.FuncAddr (name v)))
    (λ s0 ts. name_at classes.Callee ts >>= λ the_callee. Ok (raw opcode None (operands.FuncAddr the_callee.0), the_callee.1))
    (λ s0. map_is (name_is classes.Callee) (λ the_callee. raw opcode None (operands.FuncAddr the_callee))))

pub nullary_is : Is nullary nullary_value nullary_at
unfolding nullary_at
nullary_is =
    map_is (opcode_is classes.Nullary) (λ opcode. raw opcode None operands.Nullary)

pub jump_is : Is (jump then target) jump_value jump_at
unfolding jump_at
jump_is =
    then_is (opcode_is classes.Jump) target (λ opcode v. raw opcode None (operands.Jump (branch_value v)))
    (λ opcode ts. target_at roles.Branch ts >>= λ the_target. Ok (raw opcode None (operands.Jump the_target.0), the_target.1))
    (λ opcode. map_is (branch_is) (λ the_target. raw opcode None (operands.Jump the_target)))

pub brif_is : Is (brif then Opt suffix then value then comma then target then comma then target) brif_value brif_at
unfolding brif_at
brif_is =
    then_is (opcode_is classes.Brif) (Opt suffix then value then comma then target then comma then target) (λ opcode v. raw opcode (opt_suffix_value v.0) (operands.Brif (name v.1.0) (branch_value v.1.1.1.0) (branch_value v.1.1.1.1.1)))
    (λ opcode ts. opt_suffix_at ts >>= λ the_suffix. name_at classes.Value the_suffix.1 >>= λ cond. name_at classes.Comma cond.1 >>= λ s2. target_at roles.Branch s2.1 >>= λ then_target. name_at classes.Comma then_target.1 >>= λ s4. target_at roles.Branch s4.1 >>= λ else_target. Ok (raw opcode the_suffix.0 (operands.Brif cond.0 then_target.0 else_target.0), else_target.1))
    (λ opcode. then_is (opt_suffix_is) (value then comma then target then comma then target) (λ the_suffix v. raw opcode the_suffix (operands.Brif (name v.0) (branch_value v.1.1.0) (branch_value v.1.1.1.1)))
    (λ the_suffix ts. name_at classes.Value ts >>= λ cond. name_at classes.Comma cond.1 >>= λ s2. target_at roles.Branch s2.1 >>= λ then_target. name_at classes.Comma then_target.1 >>= λ s4. target_at roles.Branch s4.1 >>= λ else_target. Ok (raw opcode the_suffix (operands.Brif cond.0 then_target.0 else_target.0), else_target.1))
    (λ the_suffix. then_is (name_is classes.Value) (comma then target then comma then target) (λ cond v. raw opcode the_suffix (operands.Brif cond (branch_value v.1.0) (branch_value v.1.1.1)))
    (λ cond ts. name_at classes.Comma ts >>= λ s2. target_at roles.Branch s2.1 >>= λ then_target. name_at classes.Comma then_target.1 >>= λ s4. target_at roles.Branch s4.1 >>= λ else_target. Ok (raw opcode the_suffix (operands.Brif cond then_target.0 else_target.0), else_target.1))
    (λ cond. then_is (name_is classes.Comma) (target then comma then target) (λ s2 v. raw opcode the_suffix (operands.Brif cond (branch_value v.0) (branch_value v.1.1)))
    (λ s2 ts. target_at roles.Branch ts >>= λ then_target. name_at classes.Comma then_target.1 >>= λ s4. target_at roles.Branch s4.1 >>= λ else_target. Ok (raw opcode the_suffix (operands.Brif cond then_target.0 else_target.0), else_target.1))
    (λ s2. then_is (branch_is) (comma then target) (λ then_target v. raw opcode the_suffix (operands.Brif cond then_target (branch_value v.1)))
    (λ then_target ts. name_at classes.Comma ts >>= λ s4. target_at roles.Branch s4.1 >>= λ else_target. Ok (raw opcode the_suffix (operands.Brif cond then_target else_target.0), else_target.1))
    (λ then_target. then_is (name_is classes.Comma) target (λ s4 v. raw opcode the_suffix (operands.Brif cond then_target (branch_value v)))
    (λ s4 ts. target_at roles.Branch ts >>= λ else_target. Ok (raw opcode the_suffix (operands.Brif cond then_target else_target.0), else_target.1))
    (λ s4. map_is (branch_is) (λ else_target. raw opcode the_suffix (operands.Brif cond then_target else_target))))))))
