-- What is done at a line.
use Rattle.std.proofs.Common.{◌≡◌, ℕ, ◌+◌, ◌<◌, ◌≤◌, List, [], ◌∷◌, Option, Some, None, refl, ap, ◌∙◌, sym, false}
use Rattle.std.proofs.Common.{◌++◌, map, length, slice_get, get_or, take, drop, append-nil, append_assoc}
use Rattle.std.proofs.lemmas.List.{reverse-append, take_more}
use Rattle.std.proofs.lemmas.List.{take-append-drop}
use Rattle.std.proofs.lemmas.Option.{slice_get_past, slice_get-get_or}
use Rattle.std.specs.Option.{option_map}
use Rattle.std.specs.Prelude.{is_some}
use Rattle.clk_num.specs.declared.op.Op.{Op}
use Rattle.clk_num.specs.declared.width.Width.{Width}
use Rattle.clk_num.specs.Rows.{row}
use Rattle.clk_num.specs.Operations.{DataValue, Evaluation, NoRow, widths, within, meaning, operation}
use Rattle.clk_num.specs.declared.bits.Bits.{Bits}
use Rattle.clk_num.specs.Views.{data_of, data_of_all}
use Rattle.ir_core.specs.declared.declarations.SlotDecl.{SlotDecl}
use Rattle.ir_core.specs.Module.{Function, Module}
use Rattle.ir_semantics.specs.Values.{i64, join}
use Rattle.ir_semantics.specs.Machine.{Wait, World, Moment, Caught, Shown, User}
use Rattle.ir_semantics.specs.Step as step
use Rattle.interp.specs.State.{function_at, wait_of, waits_of}
use Rattle.interp.specs.declared.state.Wait.{Wait as CodeWait}
use Rattle.interp.proofs.Entering.{at_past, at_found}

no_result : (o : Option (List Width)) (e : Evaluation) → is_some o ≡ false → within o e ≡ NoRow
no_result None e h = refl
no_result (Some ts) e h = cc h

-- no operands of its row
pub no_row : (op : Op) (xs : List DataValue) → false ≡ is_some (row op (widths xs)) → NoRow ≡ operation op xs
unfolding operation
no_row op xs h = sym (no_result (row op (widths xs)) (meaning op xs) (sym h))

-- ---- exceptions

pub payloads : (p q : Bits) (a b : ℕ) → data_of p ≡ i64 a → data_of q ≡ i64 b → data_of_all (p ∷ q ∷ []) ≡ i64 a ∷ i64 b ∷ []
payloads p q a b e h = ap (λ x. x ∷ data_of q ∷ []) e ∙ ap (λ x. i64 a ∷ x ∷ []) h

-- one more frame waits
pub waits_push : (m : Module) (ys : List CodeWait) (y : CodeWait) → waits_of m (ys ++ y ∷ []) ≡ wait_of m y ∷ waits_of m ys
waits_push m ys y = ap (map (wait_of m)) (reverse-append ys (y ∷ []))

abbrev thrown : ℕ → ℕ → ℕ → Wait → List Wait → World → step.Search → Moment
thrown t p q x s w (step.Missed k) = step.throw t p q s k w
thrown t p q x s w (step.Hit k target) = step.enter_target x.frame target [] (i64 p ∷ i64 q ∷ []) s (step.with_event w (Caught t p q k))

thrown_elim : (t p q : ℕ) (x : Wait) (s : List Wait) (w : World) (o : step.Search) → elim o [ step.Missed k ↦ step.throw t p q s k w | step.Hit k target ↦ step.enter_target x.frame target [] (i64 p ∷ i64 q ∷ []) s (step.with_event w (Caught t p q k)) ] ≡ thrown t p q x s w o
thrown_elim t p q x s w (step.Missed k) = refl
thrown_elim t p q x s w (step.Hit k target) = refl

pub thrown_is : (t p q n : ℕ) (x : Wait) (s : List Wait) (w : World) (o : step.Search) → o ≡ step.search_in (step.table_of x.line.inst) t n → thrown t p q x s w o ≡ step.throw t p q (x ∷ s) n w
thrown_is t p q n x s w o e = ap (thrown t p q x s w) e ∙ sym (thrown_elim t p q x s w (step.search_in (step.table_of x.line.inst) t n))

-- ---- slots

pub size_past : (m : Module) (at k : ℕ) → length m ≤ at → option_map (λ (d : SlotDecl). d.size) (slice_get (function_at m at).slots k) ≡ None
size_past m at k h = ap (λ (f : Function). option_map (λ (d : SlotDecl). d.size) (slice_get f.slots k)) (at_past m at h)

pub size_none : (m : Module) (at k : ℕ) (f : Function) (ds : List SlotDecl) → slice_get m at ≡ Some f → ds ≡ f.slots → length ds ≤ k → option_map (λ (d : SlotDecl). d.size) (slice_get (function_at m at).slots k) ≡ None
size_none m at k f ds e is h = ap (λ (g : Function). option_map (λ (d : SlotDecl). d.size) (slice_get g.slots k)) (at_found m at f e) ∙ (ap (λ ss. option_map (λ (d : SlotDecl). d.size) (slice_get ss k)) (sym is) ∙ ap (option_map (λ (d : SlotDecl). d.size)) (slice_get_past ds k h))

pub size_some : (m : Module) (at k : ℕ) (f : Function) (ds : List SlotDecl) (d x : SlotDecl) → slice_get m at ≡ Some f → ds ≡ f.slots → k < length ds → x ≡ get_or ds k d → option_map (λ (d : SlotDecl). d.size) (slice_get (function_at m at).slots k) ≡ Some x.size
size_some m at k f ds d x e is h ex = ap (λ (g : Function). option_map (λ (d : SlotDecl). d.size) (slice_get g.slots k)) (at_found m at f e) ∙ (ap (λ ss. option_map (λ (d : SlotDecl). d.size) (slice_get ss k)) (sym is) ∙ (ap (option_map (λ (d : SlotDecl). d.size)) (slice_get-get_or ds k d h) ∙ ap (λ (y : SlotDecl). Some y.size) (sym ex)))

-- ---- what is shown

-- the frames below and one more
shown_push : (m : Module) (ys : List CodeWait) (y : CodeWait) → step.shown (waits_of m (ys ++ y ∷ [])) ≡ join (step.shown (waits_of m ys)) (join (Some (map User (wait_of m y).frame.extra)) (step.shown_tags (wait_of m y).frame (wait_of m y).line.tags))
shown_push m ys y = ap step.shown (waits_push m ys y)

pub shown_next : (m : Module) (ys : List CodeWait) (i : ℕ) (y d : CodeWait) (out : List Shown) (new : Option (List Shown)) → i < length ys → y ≡ get_or ys i d → Some out ≡ step.shown (waits_of m (take i ys)) → new ≡ join (Some out) (join (Some (map User (wait_of m y).frame.extra)) (step.shown_tags (wait_of m y).frame (wait_of m y).line.tags)) → new ≡ step.shown (waits_of m (take (i + 1) ys))
shown_next m ys i y d out new h ey inv e =
    e ∙ (ap (λ o. join o (join (Some (map User (wait_of m y).frame.extra)) (step.shown_tags (wait_of m y).frame (wait_of m y).line.tags))) inv
    ∙ (sym (shown_push m (take i ys) y) ∙ (ap (λ (z : CodeWait). step.shown (waits_of m (take i ys ++ z ∷ []))) ey ∙ ap (λ zs. step.shown (waits_of m zs)) (sym (take_more ys i d h)))))

shown_lacks : (m : Module) (ys zs : List CodeWait) → None ≡ step.shown (waits_of m ys) → None ≡ step.shown (waits_of m (ys ++ zs))
shown_lacks m ys [] e = e ∙ ap (λ t. step.shown (waits_of m t)) (sym (append-nil ys))
shown_lacks m ys (z ∷ zs) e =
    shown_lacks m (ys ++ z ∷ []) zs (ap (λ o. join o (join (Some (map User (wait_of m z).frame.extra)) (step.shown_tags (wait_of m z).frame (wait_of m z).line.tags))) e ∙ sym (shown_push m ys z))
    ∙ ap (λ t. step.shown (waits_of m t)) (append_assoc ys (z ∷ []) zs)

pub shown_stop : (m : Module) (ys : List CodeWait) (i : ℕ) (x : Wait) → None ≡ step.shown (waits_of m (take i ys)) → None ≡ step.shown (x ∷ waits_of m ys)
shown_stop m ys i x e =
    ap (λ o. join o (join (Some (map User x.frame.extra)) (step.shown_tags x.frame x.line.tags))) (shown_lacks m (take i ys) (drop i ys) e ∙ ap (λ t. step.shown (waits_of m t)) (take-append-drop i ys))
