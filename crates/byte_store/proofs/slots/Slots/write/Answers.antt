use Rattle.std.proofs.Common.{◌≡◌, ◌∙◌, sym, ap, arith, ◌+◌, ◌-◌, ◌%◌, ◌/◌, ◌<◌, ◌≤◌, ◌∷◌, subst}
use Rattle.ir_semantics.specs.Values.{put_bytes, bytes_of}
use Rattle.byte_store.specs.Cells.{bytes_at}
use Rattle.byte_store.proofs.Bytes.{bytes_next, bytes_none, put_next}
use Rattle.byte_store.proofs.slots.Slots.write.Goals as goal

pub bytes-init : goal.bytes-init
bytes-init c =
    let o : c.args.offset + 0 ≡ c.args.offset = omega arith in
    let n : c.args.bytes - 0 ≡ c.args.bytes = omega arith in
    record {
      slot = c.in_ok-make_room.ensures.slot;
      room = c.in_ok-make_room.ensures.room;
      is =
          ap (λ k. put_bytes (bytes_at c.make_room.new.self) c.args.slot k (bytes_of (c.args.bytes - 0) c.args.value)) o
          ∙ (ap (λ k. put_bytes (bytes_at c.make_room.new.self) c.args.slot c.args.offset (bytes_of k c.args.value)) n
          ∙ ap (λ s. put_bytes s c.args.slot c.args.offset (bytes_of c.args.bytes c.args.value)) c.in_ok-make_room.ensures.same);
    }

pub bytes-preserved : goal.bytes-preserved
bytes-preserved c =
    let o : c.args.offset + (c.bytes.i + 1) ≡ c.args.offset + c.bytes.i + 1 = omega arith in
    let n : c.args.bytes - c.bytes.i - 1 ≡ c.args.bytes - (c.bytes.i + 1) = omega arith in
    record {
      slot = subst (λ k. c.args.slot < k) (sym c.set.ensures.slot) c.bytes.invariant.slot;
      room = subst (λ k. c.args.offset + c.args.bytes ≤ k) (sym c.set.ensures.room) c.bytes.invariant.room;
      is =
          ap (λ k. put_bytes (bytes_at c.set.new.self) c.args.slot k (bytes_of (c.args.bytes - (c.bytes.i + 1)) (c.bytes.rest / 256))) o
          ∙ (ap (λ s. put_bytes s c.args.slot (c.args.offset + c.bytes.i + 1) (bytes_of (c.args.bytes - (c.bytes.i + 1)) (c.bytes.rest / 256))) c.set.ensures.written
          ∙ (put_next (bytes_at c.bytes.self) c.args.slot (c.args.offset + c.bytes.i) (c.bytes.rest % 256) (bytes_of (c.args.bytes - (c.bytes.i + 1)) (c.bytes.rest / 256))
          ∙ (ap (put_bytes (bytes_at c.bytes.self) c.args.slot (c.args.offset + c.bytes.i)) (sym (bytes_next (c.args.bytes - c.bytes.i) c.bytes.rest (omega arith) ∙ ap (λ k. (c.bytes.rest % 256) ∷ bytes_of k (c.bytes.rest / 256)) n))
          ∙ c.bytes.invariant.is)));
    }

pub returns-clause-ok : goal.returns-clause-ok
returns-clause-ok c =
    let e : c.args.bytes - c.bytes.i ≡ 0 = omega arith in
    sym (ap (put_bytes (bytes_at c.bytes.self) c.args.slot (c.args.offset + c.bytes.i)) (ap (λ n. bytes_of n c.bytes.rest) e ∙ bytes_none c.bytes.rest)) ∙ c.bytes.invariant.is
