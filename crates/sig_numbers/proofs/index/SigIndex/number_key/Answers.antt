use Rattle.std.proofs.Common.{◌≡◌, ℕ, ◌+◌, ◌<◌, List, cond, arith, Option, Some, None, sym, ap, ◌∙◌}
use Rattle.std.specs.Prelude.{if◌then◌else◌, is_some}
use Rattle.std.specs.Map.{lookup}
use Rattle.std.specs.BTreeMap.{is_at, btree_map_len}
use Rattle.ir_core.specs.Lookup.{same_bytes}
use Rattle.ir_core.specs.Named.{compare_texts}
use Rattle.body_import.specs.SigKeys.{sig_key}
use Rattle.sig_numbers.specs.Index.{number_at}
use Rattle.sig_numbers.proofs.Indexed.{entry_more, numbers_stay, below_more, apart_more}
use Rattle.sig_numbers.proofs.index.SigIndex.number_key.Goals.{In_ok-insert}
use Rattle.sig_numbers.proofs.index.SigIndex.number_key.Goals as goal

absent : (c : In_ok-insert) → number_at c.args.self.now c.args.key.items ≡ None
absent c = ap (number_at c.args.self.now) (sym c.as_slice.ensures.value) ∙ (sym c.get.ensures.value ∙ (sym c.copied.ensures ∙ c.in_default.is))

more : (c : In_ok-insert) (k : List ℕ) → number_at (record { map = c.insert.new.self; last = c.args.self.now.last }) k ≡ cond (same_bytes c.args.key.items k) (Some c.len-number.result) (number_at c.args.self.now k)
more c k = ap (lookup (is_at (compare_texts k))) c.in_ok-insert.ensures.entries ∙ entry_more c.args.key c.len-number.result c.args.self.now.map.entries k

longer : (c : In_ok-insert) → btree_map_len c.insert.new.self ≡ c.len-number.result + 1
longer c =
    c.in_ok-insert.ensures.len
    ∙ (ap (λ (o : Option ℕ). btree_map_len c.args.self.now.map + (if is_some o then 0 else 1)) (c.in_ok-insert.ensures.old ∙ absent c)
    ∙ ap (λ (z : ℕ). z + 1) (sym c.len-number.ensures.len))

below : (c : In_ok-insert) (k : List ℕ) (v : ℕ) → number_at c.args.self.now k ≡ Some v → v < c.len-number.result
below c k v e = let l = c.requires.below k v e in let n = c.len-number.ensures.len in omega (arith, l, n)

pub returns-clause-index : goal.returns-clause-index
returns-clause-index c =
    let f : List ℕ → Option ℕ = number_at c.args.self.now in
    let g : List ℕ → Option ℕ = number_at (record { map = c.insert.new.self; last = c.args.self.now.last }) in
    record {
      below = below_more f g c.args.key.items c.len-number.result (more c) (absent c) (below c) (btree_map_len c.insert.new.self) (longer c);
      apart = apart_more f g c.args.key.items c.len-number.result (more c) (absent c) (below c) c.requires.apart;
      last = λ l e. numbers_stay f g c.args.key.items c.len-number.result (more c) (absent c) (sig_key l.sig.now) l.number (c.requires.last l e);
    }

pub returns-clause-keeps : goal.returns-clause-keeps
returns-clause-keeps c = numbers_stay (number_at c.args.self.now) (number_at (record { map = c.insert.new.self; last = c.args.self.now.last })) c.args.key.items c.len-number.result (more c) (absent c)
