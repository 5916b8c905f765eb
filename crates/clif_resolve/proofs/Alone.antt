-- A function of a raw module by itself.
use Rattle.std.proofs.Common.{◌≡◌, ℕ, ◌+◌, ◌-◌, List, take, drop, slice_range, ap, ◌∙◌, arith}
use Rattle.clif_read.specs.declared.raw.RawFunction.{RawFunction}
use Rattle.clif_read.specs.declared.raw.RawModule.{RawModule}
use Rattle.clif_meaning.specs.Reads.{alone}

-- the range of one function is that of the raw module that has it alone
pub range_of_one : (fs : List RawFunction) (raw : RawModule) (func : ℕ) → fs ≡ raw.functions → slice_range fs func (func + 1) ≡ (alone raw func).functions
range_of_one fs raw func e =
    ap (λ (xs : List RawFunction). slice_range xs func (func + 1)) e
    ∙ ap (λ n. take n (drop func raw.functions)) (let one : func + 1 - func ≡ 1 = omega arith in one)
