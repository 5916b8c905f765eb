-- The body of a splice at a plain call is what the code makes of the callee's blocks.
use Rattle.std.specs.Prelude.{◌≡◌, ℕ, ◌+◌, List, length, map, get_or}
use Rattle.ir_core.specs.Module.{Block}
use Rattle.ir_semantics.specs.Import.{sig_after, callee_after}
use Rattle.ir_semantics.specs.Splice.{Splicing, Within, Last, kind_of, body}
use Rattle.inline_body.specs.declared.names.Names.{Names}
use Rattle.inline_body.specs.Named.{names_of}
use Rattle.inline_body.specs.Inlined.{inlined_block, copied_line}

-- the names, and the first new result of each block, are the numbers of the splice
pub record Numbers (p : Splicing) (n : Names) (starts : List ℕ) : Type 0 where
  pub kind : kind_of p.site.inst ≡ Within
  pub value : (v : ℕ) → p.naming.callee_value v ≡ n.values + v
  pub block : (b : ℕ) → p.naming.callee_block b ≡ get_or n.blocks b 0
  pub slots : length p.caller.slots ≡ n.slots
  pub sig : (k : ℕ) → sig_after p.caller p.callee k ≡ get_or n.sigs k n.sig_count
  pub callee : (k : ℕ) → callee_after p.caller p.callee k ≡ get_or n.callees k n.callee_count
  pub new_value : (c i : ℕ) → p.naming.new_value c i ≡ get_or starts c 0 + i

abbrev pub WithinBodyIsInlined : Type 0
WithinBodyIsInlined =
    (p : Splicing) (n : Names) (starts : List ℕ) → Numbers p n starts → (bs : List Block)
    → body p bs ≡ map (inlined_block n p.site.tags p.naming.after starts (length p.site.results)) bs

-- the same at a tail call, where no line changes its kind
pub record LastNumbers (p : Splicing) (n : Names) : Type 0 where
  pub kind : kind_of p.site.inst ≡ Last
  pub value : (v : ℕ) → p.naming.callee_value v ≡ n.values + v
  pub block : (b : ℕ) → p.naming.callee_block b ≡ get_or n.blocks b 0
  pub slots : length p.caller.slots ≡ n.slots
  pub sig : (k : ℕ) → sig_after p.caller p.callee k ≡ get_or n.sigs k n.sig_count
  pub callee : (k : ℕ) → callee_after p.caller p.callee k ≡ get_or n.callees k n.callee_count

abbrev pub LastBodyIsCopied : Type 0
LastBodyIsCopied =
    (p : Splicing) (n : Names) → LastNumbers p n → (bs : List Block)
    → body p bs
    ≡ map (λ b. record {
      number = (names_of n).block b.number;
      params = map (names_of n).value b.params;
      lines = map (copied_line n p.site.tags) b.lines;
    }) bs
