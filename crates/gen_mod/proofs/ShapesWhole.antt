-- Each of the four shapes is well-formed: every number in it is that of something it has, and its values are defined in
-- the order in which they are declared.
use Rattle.std.proofs.Common.{ℕ, zero, suc, ◌+◌, ◌<◌, ◌≤◌, length, refl, arith, inl, inr}
use Rattle.std.proofs.lemmas.Bool.{cases_eq}
use Rattle.clk_num.specs.declared.op.Cc.TheVariants.{Ult}
use Rattle.clk_num.specs.declared.op.Op.TheVariants as ops
use Rattle.clk_num.specs.declared.op.Op.{Op}
use Rattle.ir_core.specs.Module.{Function}
use Rattle.ir_core.specs.Lists.{In, Different}
use Rattle.ir_core.specs.Sound.{IsWhole}
use Rattle.ir_core.specs.WellFormed.{declared, LineWellFormed, WellFormed}
use Rattle.ir_semantics.specs.Splice.{from}
use Rattle.gen_mod.specs.Shapes.{iconst, pure, call, returned, brif, try_call}
use Rattle.gen_mod.specs.Shapes.{adding, calling_two, trying, choosing}
use Rattle.gen_mod.specs.Generated.{function}
use Rattle.gen_mod.proofs.EachShape.{of_function}
use Rattle.ir_semantics.proofs.Ranges.{from_differ, in_from}

-- ---- numbers one after the other

-- ---- lines

iconst_whole : {f : Function} (v c : ℕ) → LineWellFormed f (iconst v c)
iconst_whole v c = record { values = tt; blocks = tt; slots = tt; shown = tt; callees = tt; sigs = tt }

pure_whole : {f : Function} (op : Op) (v x y : ℕ) → In x (declared f) → In y (declared f)
    → LineWellFormed f (pure op v x y)
pure_whole op v x y left right = record {
  values = (left, (right, tt));
  blocks = tt;
  slots = tt;
  shown = tt;
  callees = tt;
  sigs = tt;
}

call_whole : {f : Function} (v k x : ℕ) → In x (declared f) → k < length f.callees → LineWellFormed f (call v k x)
call_whole v k x there callee = record {
  values = (there, tt);
  blocks = tt;
  slots = tt;
  shown = tt;
  callees = (callee, tt);
  sigs = tt;
}

returned_whole : {f : Function} (v : ℕ) → In v (declared f) → LineWellFormed f (returned v)
returned_whole v there = record { values = (there, tt); blocks = tt; slots = tt; shown = tt; callees = tt; sigs = tt }

-- ---- the shapes

pub adding_whole : (i c : ℕ) → WellFormed (adding i c)
adding_whole i c = record {
  begins = λ e. cc;
  blocks = from_differ 0 1;
  declared_once = from_differ 0 3;
  defined_once = from_differ 0 3;
  defined = λ v p. p;
  definitions_declared = λ v p. p;
  callees = tt;
  lines = (
    (
      iconst_whole 1 c,
      (pure_whole ops.Iadd 2 0 1 (inl refl) (inr (inl refl)), (returned_whole 2 (inr (inr (inl refl))), tt)),
    ),
    tt,
  );
}

pub calling_two_whole : (i a b : ℕ) → WellFormed (calling_two i a b)
calling_two_whole i a b = record {
  begins = λ e. cc;
  blocks = from_differ 0 1;
  declared_once = from_differ 0 3;
  defined_once = from_differ 0 3;
  defined = λ v p. p;
  definitions_declared = λ v p. p;
  callees = (omega arith, (omega arith, tt));
  lines = (
    (
      call_whole 1 0 0 (inl refl) (omega arith),
      (
        call_whole 2 1 1 (inr (inl refl)) (omega arith),
        (returned_whole 2 (inr (inr (inl refl))), tt),
      ),
    ),
    tt,
  );
}

pub trying_whole : (i a : ℕ) → WellFormed (trying i a)
trying_whole i a =
    let tries : LineWellFormed (trying i a) (try_call 0 0 1 2) = record {
      values = (inl refl, tt);
      blocks = (inr (inl refl), (inr (inr (inl refl)), (inr (inr (inl refl)), tt)));
      slots = tt;
      shown = tt;
      callees = (omega arith, tt);
      sigs = (omega arith, tt);
    } in
    record {
      begins = λ e. cc;
      blocks = from_differ 0 3;
      declared_once = from_differ 0 3;
      defined_once = from_differ 0 3;
      defined = λ v p. p;
      definitions_declared = λ v p. p;
      callees = (omega arith, tt);
      lines = (
        (tries, tt),
        (
          (returned_whole 1 (inr (inl refl)), tt),
          ((returned_whole 2 (inr (inr (inl refl))), tt), tt),
        ),
      );
    }

pub choosing_whole : (i c a : ℕ) → WellFormed (choosing i c a)
choosing_whole i c a =
    let parts : LineWellFormed (choosing i c a) (brif 2 1 2) = record {
      values = (inr (inr (inl refl)), tt);
      blocks = (inr (inl refl), (inr (inr (inl refl)), tt));
      slots = tt;
      shown = tt;
      callees = tt;
      sigs = tt;
    } in
    record {
      begins = λ e. cc;
      blocks = from_differ 0 3;
      declared_once = from_differ 0 5;
      defined_once = from_differ 0 5;
      defined = λ v p. p;
      definitions_declared = λ v p. p;
      callees = (omega arith, (omega arith, tt));
      lines = (
        (
          iconst_whole 1 c,
          (pure_whole (ops.Icmp Ult) 2 0 1 (inl refl) (inr (inl refl)), (parts, tt)),
        ),
        (
          (
            call_whole 3 0 0 (inl refl) (omega arith),
            (returned_whole 3 (inr (inr (inr (inl refl)))), tt),
          ),
          (
            (
              call_whole 4 1 0 (inl refl) (omega arith),
              (returned_whole 4 (inr (inr (inr (inr (inl refl))))), tt),
            ),
            tt,
          ),
        ),
      );
    }

-- ---- what a module asks of a function that is put into it

pub function_whole : (i state : ℕ) → IsWhole (function i state).0
function_whole = of_function (λ i f. IsWhole f) (record {
  adds = λ i c small. record { has_block = omega arith; defined = three; once = from_differ 0 3 };
  calls_two = λ i a b p q. record { has_block = omega arith; defined = three; once = from_differ 0 3 };
  tries = λ i a p. record { has_block = omega arith; defined = three; once = from_differ 0 3 };
  chooses = λ i c a small p. record {
    has_block = omega arith;
    defined = λ v below. in_from 0 5 v (omega arith) below;
    once = from_differ 0 5;
  };
})
  where
    three : (v : ℕ) → v < 3 → In v (from 0 3)
    three v below = in_from 0 3 v (omega arith) below
