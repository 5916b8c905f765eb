-- Blocks in the making at a `try_call`, step by step.
use Rattle.std.proofs.Common.{◌≡◌, ℕ, ◌+◌, ◌<◌, ◌^◌, List, [], ◌∷◌, ◌++◌, map, Bool, true, false, sym, ap, ap₂, ◌∙◌, subst, arith, append_assoc, append-nil}
use Rattle.std.specs.Prelude.{if◌then◌else◌}
use Rattle.std.proofs.lemmas.List.{map_push}
use Rattle.ir_core.specs.declared.instructions.InstData.{InstData}
use Rattle.ir_core.specs.Module.{Line, Block}
use Rattle.ir_core.specs.Viewed.{line_of}
use Rattle.ir_semantics.specs.Splice.{Fragment}
use Rattle.inline_body.specs.declared.blocks.BlockLines.{BlockLines}
use Rattle.inline_body.specs.declared.names.Names.{Names}
use Rattle.inline_body.specs.Inlined.{blocks_from}
use Rattle.inline_body.proofs.Found.{from_push}
use Rattle.inline_ends.specs.declared.try_body.MadeBlocks.{MadeBlocks}
use Rattle.inline_ends.specs.declared.try_body.OpenBlock.{OpenBlock}
use Rattle.inline_ends.specs.Tried.{OuterTry, is_plain_call, plain_calls, tried_line, with_line, tried_lines, block_with}
use Rattle.inline_ends.specs.TriedParts.{made_blocks, AsMany, with_rest}

abbrev pub no_rest : Fragment
no_rest = record { lines = []; more = [] }

-- the open block put behind those that are made
pub closed : (o : OpenBlock) (m : MadeBlocks) (ls : List InstData) → AsMany o.made → m.block_params.items ≡ o.made.block_params.items ++ (o.params ∷ []) → m.block_lines.items ≡ o.made.block_lines.items ++ (record { block = o.block; lines = ls } ∷ []) → ls ≡ o.lines.items → made_blocks m ≡ with_rest o no_rest
closed o m ls e p q g =
    ap₂ (λ (x : List (List ℕ)) (y : List BlockLines). blocks_from x y) p q
    ∙ (from_push o.made.block_params.items o.made.block_lines.items o.params (record { block = o.block; lines = ls }) e
    ∙ ap (λ (z : List Line). made_blocks o.made ++ (record { number = o.block; params = o.params; lines = z } ∷ [])) (ap (map line_of) g ∙ sym (append-nil (map line_of o.lines.items))))

-- a line more in the open block
pub longer : (o : OpenBlock) (ls : List InstData) (l : InstData) (rest : Fragment) → ls ≡ o.lines.items ++ (l ∷ []) → made_blocks o.made ++ block_with o.block o.params (record { lines = map line_of ls ++ rest.lines; more = rest.more }) ≡ with_rest o (record { lines = line_of l ∷ rest.lines; more = rest.more })
longer o ls l rest e =
    ap (λ (z : List Line). made_blocks o.made ++ block_with o.block o.params (record { lines = z ++ rest.lines; more = rest.more })) (ap (map line_of) e ∙ map_push line_of o.lines.items l)
    ∙ ap (λ (z : List Line). made_blocks o.made ++ block_with o.block o.params (record { lines = z; more = rest.more })) (append_assoc (map line_of o.lines.items) (line_of l ∷ []) rest.lines)

-- the next block opened behind a closed one
pub goes_on : (o : OpenBlock) (m : List Block) (ls : List InstData) (l : InstData) (next : ℕ) (ps : List ℕ) (rest : Fragment) → ls ≡ o.lines.items ++ (l ∷ []) → m ≡ made_blocks o.made ++ block_with o.block o.params (record { lines = map line_of ls ++ []; more = [] }) → m ++ block_with next ps rest ≡ with_rest o (record { lines = line_of l ∷ []; more = record { number = next; params = ps; lines = rest.lines } ∷ rest.more })
goes_on o m ls l next ps rest e g =
    ap (λ (z : List Block). z ++ block_with next ps rest) (g ∙ longer o ls l no_rest e)
    ∙ append_assoc (made_blocks o.made) (block_with o.block o.params (record { lines = map line_of o.lines.items ++ (line_of l ∷ []); more = [] })) (block_with next ps rest)

-- a step of the loop over lines
pub next_tried : (n : Names) (s : OuterTry) (o o' : OpenBlock) (l : Line) (ls all : List Line) (target : List Block)
    → ((rest : Fragment) → with_rest o' rest ≡ with_rest o (with_line n (o.block + 1) l (tried_line n s (o.block + 1) l l.inst) (is_plain_call l.inst) rest))
    → o'.block ≡ (if is_plain_call l.inst then o.block + 1 else o.block) → all ≡ l ∷ ls
    → with_rest o (tried_lines n s (o.block + 1) all) ≡ target → with_rest o' (tried_lines n s (o'.block + 1) ls) ≡ target
next_tried n s o o' l ls all target step number is was =
    step (tried_lines n s (o'.block + 1) ls)
    ∙ (ap (λ (z : ℕ). with_rest o (with_line n (o.block + 1) l (tried_line n s (o.block + 1) l l.inst) (is_plain_call l.inst) (tried_lines n s z ls))) (behind (is_plain_call l.inst) number)
    ∙ (ap (λ (z : List Line). with_rest o (tried_lines n s (o.block + 1) z)) (sym is) ∙ was))
  where
    behind : (c : Bool) → o'.block ≡ (if c then o.block + 1 else o.block) → o'.block + 1 ≡ (if c then o.block + 1 + 1 else o.block + 1)
    behind true e = ap (λ (z : ℕ). z + 1) e
    behind false e = ap (λ (z : ℕ). z + 1) e

pub next_fits : (l : Line) (ls all : List Line) (k k' : ℕ) → k' ≡ (if is_plain_call l.inst then k + 1 else k) → all ≡ l ∷ ls → k + plain_calls all + 1 < 2 ^ 32 → k' + plain_calls ls + 1 < 2 ^ 32
next_fits l ls all k k' e g h = go (is_plain_call l.inst) e (subst (λ (z : List Line). k + plain_calls z + 1 < 2 ^ 32) g h)
  where
    go : (c : Bool) → k' ≡ (if c then k + 1 else k) → k + ((if c then 1 else 0) + plain_calls ls) + 1 < 2 ^ 32 → k' + plain_calls ls + 1 < 2 ^ 32
    go true e h = omega (arith, e, h)
    go false e h = omega (arith, e, h)
