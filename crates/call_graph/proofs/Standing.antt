-- A name that is found in a list stands there.
use Rattle.std.proofs.Common.{◌≡◌, List, Bool, true, false, refl, sym, subst}
use Rattle.ir_core.specs.declared.names.FuncName.{FuncName}
use Rattle.ir_core.specs.Lookup.{same_name}
use Rattle.ir_core.specs.Lists.{In}
use Rattle.ir_core.proofs.Equal.{name_equal, name_same}
use Rattle.call_graph.specs.Order.{stands}
use Rattle.call_graph.proofs.Walks.{some_of, of_some}

pub stands_of : (x : FuncName) (ns : List FuncName) → In x ns → stands x ns ≡ true
stands_of x ns i = of_some (same_name x) ns x i (name_same x)

pub in_of : (x : FuncName) (ns : List FuncName) → stands x ns ≡ true → In x ns
in_of x ns h = let p = some_of (same_name x) ns h in subst (λ z. In z ns) (sym (name_equal x p.0 p.2)) p.1

pub not_standing : (x : FuncName) (ns : List FuncName) → (In x ns → ⊥) → stands x ns ≡ false
not_standing x ns off = go (stands x ns) (in_of x ns)
  where
    go : (c : Bool) → (c ≡ true → In x ns) → c ≡ false
    go true h = absurd (off (h refl))
    go false h = refl
