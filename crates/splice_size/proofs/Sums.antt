-- Sums of counts, and what they come to at a site.
use Rattle.std.proofs.Common.{◌≡◌, ℕ, ◌+◌, ◌*◌, length, refl, ap, ◌∙◌, arith}
use Rattle.std.proofs.Math.Nat.{add-mul}
use Rattle.ir_semantics.specs.Splice.{Kind, Within, Last, Tries}
use Rattle.splice_size.specs.declared.counts.Counts.{Counts}
use Rattle.splice_size.specs.Counts.{none, plus}
use Rattle.splice_size.specs.SizeAfter.{any_calls, body_size, table_size, taking_tags}

pub spread : (a b c n : ℕ) → c ≡ a + b → c * n ≡ a * n + b * n
spread a b c n e = ap (λ z. z * n) e ∙ add-mul a b n

any_plus : (a b : Counts) → any_calls (plus a b) ≡ any_calls a + any_calls b
any_plus a b = omega arith

taking_plus : (a b : Counts) → taking_tags (plus a b) ≡ taking_tags a + taking_tags b
taking_plus a b = omega arith

pub body_plus : (k : Kind) (tags results : ℕ) (a b : Counts) → body_size k tags results (plus a b) ≡ body_size k tags results a + body_size k tags results b
body_plus Within t r a b =
    joined (a.blocks) b.blocks a.returned b.returned (taking_tags a * t) (taking_tags b * t) (taking_tags (plus a b) * t) (a.tail_calls * (r + (1 + r))) (b.tail_calls * (r + (1 + r))) ((a.tail_calls + b.tail_calls) * (r + (1 + r)))
    (spread (taking_tags a) (taking_tags b) (taking_tags (plus a b)) t (taking_plus a b))
    (spread a.tail_calls b.tail_calls (a.tail_calls + b.tail_calls) (r + (1 + r)) refl)
  where
    joined : (x x' y y' p p' pp q q' qq : ℕ) → pp ≡ p + p' → qq ≡ q + q' → ((x + x') + (y + y')) + pp + qq ≡ ((x + y) + p + q) + ((x' + y') + p' + q')
    joined x x' y y' p p' pp q q' qq e f = omega (arith, e, f)
body_plus Last t r a b =
    joined a.blocks b.blocks a.returned b.returned (taking_tags a * t) (taking_tags b * t) (taking_tags (plus a b) * t)
    (spread (taking_tags a) (taking_tags b) (taking_tags (plus a b)) t (taking_plus a b))
  where
    joined : (x x' y y' p p' pp : ℕ) → pp ≡ p + p' → ((x + x') + (y + y')) + pp ≡ ((x + y) + p) + ((x' + y') + p')
    joined x x' y y' p p' pp e = omega (arith, e)
body_plus (Tries normal table) t r a b =
    let n = length normal.args in
    joined a.blocks b.blocks a.calls b.calls a.results b.results
    (taking_tags a * t) (taking_tags b * t) (taking_tags (plus a b) * t)
    (any_calls a * table_size table) (any_calls b * table_size table) (any_calls (plus a b) * table_size table)
    ((a.returns + a.tail_calls) * n) ((b.returns + b.tail_calls) * n) (((a.returns + b.returns) + (a.tail_calls + b.tail_calls)) * n)
    (spread (taking_tags a) (taking_tags b) (taking_tags (plus a b)) t (taking_plus a b))
    (spread (any_calls a) (any_calls b) (any_calls (plus a b)) (table_size table) (any_plus a b))
    (spread (a.returns + a.tail_calls) (b.returns + b.tail_calls) ((a.returns + b.returns) + (a.tail_calls + b.tail_calls)) n (omega arith))
  where
    joined : (x x' y y' z z' p p' pp q q' qq s s' ss : ℕ) → pp ≡ p + p' → qq ≡ q + q' → ss ≡ s + s' → (x + x') + pp + qq + ((y + y') + (z + z')) + ss ≡ (x + p + q + (y + z) + s) + (x' + p' + q' + (y' + z') + s')
    joined x x' y y' z z' p p' pp q q' qq s s' ss e f g = omega (arith, e, f, g)

-- a block's own part stays
pub body_alone : (k : Kind) (tags results n : ℕ) → body_size k tags results (record none { blocks = n }) ≡ n
body_alone Within t r n = omega arith
body_alone Last t r n = omega arith
body_alone (Tries normal table) t r n = omega arith
