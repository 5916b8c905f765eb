-- A splice under other numbers.
use Rattle.std.specs.Prelude.{◌≡◌, ℕ, map}
use Rattle.ir_core.specs.Lists.{In}
use Rattle.ir_core.specs.Lookup.{block_numbers, number_in}
use Rattle.ir_core.specs.Module.{Function}
use Rattle.ir_core.specs.WellFormed.{WellFormed}
use Rattle.ir_semantics.specs.Import.{callees_after, sig_after, callee_after, slot_after}
use Rattle.ir_semantics.specs.Renaming.{Renaming, line_under, block_under}
use Rattle.ir_semantics.specs.Splice.{Naming, Splicing, first_number}
use Rattle.inline_outcomes.specs.Stands.{Stands}
use Rattle.inline_numbering.specs.Renamed.{Renamed}

-- t takes the numbers n of a splice of g into b to the numbers m of a splice of h into c, where c is b under r and h is
-- g under s
pub record Carries (t r s : Renaming) (n m : Naming) (b c g h : Function) : Type 0 where
  pub caller_value : (v : ℕ) → t.value (n.caller_value v) ≡ m.caller_value (r.value v)
  pub callee_value : (v : ℕ) → t.value (n.callee_value v) ≡ m.callee_value (s.value v)
  pub caller_block : (x : ℕ) → t.block (n.caller_block x) ≡ m.caller_block (r.block x)
  pub callee_block : (x : ℕ) → t.block (n.callee_block x) ≡ m.callee_block (s.block x)
  pub after : t.block n.after ≡ m.after
  pub new_value : (x i : ℕ) → t.value (n.new_value x i) ≡ m.new_value (s.block x) i
  pub new_block : (x j : ℕ) → t.block (n.new_block x j) ≡ m.new_block (s.block x) j
  pub slot : (x : ℕ) → t.slot x ≡ x
  pub sig : (x : ℕ) → t.sig x ≡ x
  pub callee : (x : ℕ) → t.callee x ≡ x
  pub caller_slot : (x : ℕ) → r.slot x ≡ x
  pub caller_sig : (x : ℕ) → r.sig x ≡ x
  pub caller_callee : (x : ℕ) → r.callee x ≡ x
  pub callee_slot : (x : ℕ) → s.slot x ≡ x
  pub callee_sig : (x : ℕ) → s.sig x ≡ x
  pub callee_callee : (x : ℕ) → s.callee x ≡ x
  pub slots : (x : ℕ) → slot_after c h x ≡ slot_after b g x
  pub sigs : (x : ℕ) → sig_after c h x ≡ sig_after b g x
  pub callees : (x : ℕ) → callee_after c h x ≡ callee_after b g x
  pub all_callees : callees_after c h ≡ callees_after b g
  pub callee_blocks : h.blocks ≡ map (block_under s) g.blocks
  pub first : first_number h.blocks ≡ s.block (first_number g.blocks)

-- the same site of the caller c, which is p's under r, with h for p's callee and other numbers
abbrev pub splicing_under : Renaming → Naming → Function → Function → Splicing → Splicing
splicing_under r m c h p =
    record {
      naming = m;
      caller = c;
      callee = h;
      at = r.block p.at;
      before = map (line_under r) p.before;
      site = line_under r p.site;
      behind = map (line_under r) p.behind;
    }

-- the site of p stands in its caller, of which c is the same under r; h is the callee under s
pub record SiteUnder (r s : Renaming) (p : Splicing) (c h : Function) : Type 0 where
  pub stands : Stands p
  pub caller : Renamed r p.caller c
  pub callee : Renamed s p.callee h
  pub caller_whole : WellFormed p.caller
  pub caller_after_whole : WellFormed c
  pub callee_whole : WellFormed p.callee
  pub callee_after_whole : WellFormed h

-- a block of f and one of g that have the same place in list order
pub record SamePlace (f g : Function) (at there : ℕ) : Type 0 where
  pub one : In at (block_numbers f.blocks)
  pub other : In there (block_numbers g.blocks)
  pub place : number_in (block_numbers g.blocks) there ≡ number_in (block_numbers f.blocks) at
