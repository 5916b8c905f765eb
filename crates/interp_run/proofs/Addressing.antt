-- What calls find by an address.
use Rattle.std.proofs.Common.{◌≡◌, ℕ, zero, suc, ◌+◌, ◌-◌, ◌<◌, ◌≤◌, List, [], ◌∷◌, ◌++◌, Option, Some, None, Bool, refl, sym, ap, ◌∙◌, arith, length, get_or, slice_get, map, take, if◌then◌else◌, add-one}
use Rattle.std.specs.Prelude.{MatchOption}
use Rattle.std.proofs.lemmas.List.{length-map, map-append, take_more}
use Rattle.std.proofs.lemmas.Option.{slice_get_past, slice_get-get_or}
use Rattle.ir_core.specs.declared.declarations.Callee.{Callee}
use Rattle.ir_core.specs.declared.names.FuncName.{FuncName}
use Rattle.ir_core.specs.declared.signatures.Sig.{Sig}
use Rattle.ir_core.specs.Module.{Function, Module}
use Rattle.ir_core.specs.Lookup.{and_then, find_function}
use Rattle.ir_core.specs.Named.{place_of}
use Rattle.ir_core.specs.Signatures.{same_sig}
use Rattle.ir_core.proofs.Indexing.{place_found}
use Rattle.ir_semantics.specs.Names.{names, address_of, name_at}
use Rattle.ir_semantics.specs.Effect.{ByAddress}
use Rattle.ir_semantics.specs.Step.{Inside, Outside, Nowhere, or_missing, by_address, at_name, found}
use Rattle.func_addrs.specs.declared.mentions.Mention.{Mention}
use Rattle.func_addrs.specs.Mentions.{names_of}
use Rattle.func_addrs.proofs.Mentioning.{names_push}
use Rattle.interp.specs.State.{function_at, found_at}
use Rattle.interp.proofs.Entering.{at_past, at_found}
use Rattle.interp.proofs.Programs.{found_by_name}
use Rattle.interp_run.specs.declared.addresses.CalleeAddrs.{CalleeAddrs}
use Rattle.interp_run.specs.Addressing.{callee_addresses, all_addresses}

abbrev pub rows_of : List CalleeAddrs → List (List (Option ℕ))
rows_of cs = map (λ (c : CalleeAddrs). c.addresses.items) cs

-- ---- loops

pub places_more : (m : Module) (ms : List Mention) (i : ℕ) (x : Mention) (ps : List (Option ℕ)) (o : Option ℕ) → i < length ms → x ≡ get_or ms i x → ps ≡ map (λ (n : FuncName). place_of n m) (names_of (take i ms)) → o ≡ place_of x.name.now m → ps ++ o ∷ [] ≡ map (λ (n : FuncName). place_of n m) (names_of (take (i + 1) ms))
places_more m ms i x ps o h ex e eo =
    ap (λ qs. qs ++ o ∷ []) e
    ∙ (ap (λ q. map (λ (n : FuncName). place_of n m) (names_of (take i ms)) ++ q ∷ []) eo
    ∙ (sym (map-append (λ (n : FuncName). place_of n m) (names_of (take i ms)) (x.name.now ∷ []))
    ∙ ap (map (λ (n : FuncName). place_of n m)) (sym (names_push (take i ms) x) ∙ ap names_of (ap (λ (y : Mention). take i ms ++ y ∷ []) ex ∙ sym (take_more ms i x h)))))

take_there : (m : Module) (i : ℕ) (f : Function) → slice_get m i ≡ Some f → take (i + 1) m ≡ take i m ++ f ∷ []
take_there m i f e = ap (λ k. take k m) (add-one i) ∙ go m i e
  where
    go : (m : Module) (i : ℕ) → slice_get m i ≡ Some f → take (suc i) m ≡ take i m ++ f ∷ []
    go [] i e = cc
    go (g ∷ m) zero e = let q : g ≡ f = cc in ap (λ k. k ∷ []) q
    go (g ∷ m) (suc i) e = ap (λ t. g ∷ t) (go m i e)

pub rows_more : (m : Module) (ns : List FuncName) (cs : List CalleeAddrs) (i : ℕ) (f : Function) (c : CalleeAddrs) → slice_get m i ≡ Some f → rows_of cs ≡ all_addresses ns (take i m) → c.addresses.items ≡ callee_addresses ns f.callees → rows_of (cs ++ c ∷ []) ≡ all_addresses ns (take (i + 1) m)
rows_more m ns cs i f c get e ec =
    map-append (λ (x : CalleeAddrs). x.addresses.items) cs (c ∷ [])
    ∙ (ap (λ rs. rs ++ c.addresses.items ∷ []) e
    ∙ (ap (λ r. all_addresses ns (take i m) ++ r ∷ []) ec
    ∙ (sym (map-append (λ (g : Function). callee_addresses ns g.callees) (take i m) (f ∷ []))
    ∙ ap (all_addresses ns) (sym (take_there m i f get)))))

-- ---- addresses of callee declarations

rows_length : (m : Module) (ns : List FuncName) (cs : List CalleeAddrs) → rows_of cs ≡ all_addresses ns m → length cs ≡ length m
rows_length m ns cs e =
    sym (length-map cs (λ (c : CalleeAddrs). c.addresses.items)) ∙ (ap length e ∙ length-map m (λ (f : Function). callee_addresses ns f.callees))

no_callees : (m : Module) (at k : ℕ) (go : Callee → Option ℕ) → length m ≤ at → None ≡ and_then (slice_get (function_at m at).callees k) go
no_callees m at k go h = ap (λ (f : Function). and_then (slice_get f.callees k) go) (sym (at_past m at h))

pub past_rows : (m : Module) (ns : List FuncName) (cs : List CalleeAddrs) (at k : ℕ) (go : Callee → Option ℕ) → rows_of cs ≡ all_addresses ns m → length cs ≤ at → None ≡ and_then (slice_get (function_at m at).callees k) go
past_rows m ns cs at k go e h = let q = rows_length m ns cs e in no_callees m at k go (omega arith)

row_there : (m : Module) (ns : List FuncName) (cs : List CalleeAddrs) (at : ℕ) (d : CalleeAddrs) → rows_of cs ≡ all_addresses ns m → at < length cs → (get_or cs at d).addresses.items ≡ callee_addresses ns (function_at m at).callees
row_there m ns [] at d e h = absurd (omega arith)
row_there [] ns (c ∷ cs) at d e h = cc
row_there (f ∷ m) ns (c ∷ cs) zero d e h = cc
row_there (f ∷ m) ns (c ∷ cs) (suc at) d e h = let q : rows_of cs ≡ all_addresses ns m = cc in row_there m ns cs at d q (omega arith)

none_called : (cs : List Callee) (k : ℕ) (go : Callee → Option ℕ) → length cs ≤ k → None ≡ and_then (slice_get cs k) go
none_called cs k go h = ap (λ o. and_then o go) (sym (slice_get_past cs k h))

pub past_callees : (m : Module) (ns : List FuncName) (cs : List CalleeAddrs) (at k n : ℕ) (d : CalleeAddrs) (c : CalleeAddrs) → rows_of cs ≡ all_addresses ns m → at < length cs → c ≡ get_or cs at d → n ≡ k → length c.addresses.items ≤ n → None ≡ and_then (slice_get (function_at m at).callees k) (λ (c : Callee). address_of ns c.name)
past_callees m ns cs at k n d c e h ec en past =
    let row : c.addresses.items ≡ callee_addresses ns (function_at m at).callees = ap (λ (x : CalleeAddrs). x.addresses.items) ec ∙ row_there m ns cs at d e h in
    let len : length c.addresses.items ≡ length (function_at m at).callees = ap length row ∙ length-map (function_at m at).callees (λ (c : Callee). address_of ns c.name) in
    none_called (function_at m at).callees k (λ (c : Callee). address_of ns c.name) (omega arith)

called_there : (ns : List FuncName) (cs : List Callee) (as' : List (Option ℕ)) (k : ℕ) (d : Option ℕ) → as' ≡ callee_addresses ns cs → k < length as' → get_or as' k d ≡ and_then (slice_get cs k) (λ (c : Callee). address_of ns c.name)
called_there ns cs [] k d e h = absurd (omega arith)
called_there ns [] (a ∷ as') k d e h = cc
called_there ns (c ∷ cs) (a ∷ as') zero d e h = cc
called_there ns (c ∷ cs) (a ∷ as') (suc k) d e h = let q : as' ≡ callee_addresses ns cs = cc in called_there ns cs as' k d q (omega arith)

pub the_callee : (m : Module) (ns : List FuncName) (cs : List CalleeAddrs) (at k n : ℕ) (d : CalleeAddrs) (c : CalleeAddrs) (o a : Option ℕ) → rows_of cs ≡ all_addresses ns m → at < length cs → c ≡ get_or cs at d → n ≡ k → n < length c.addresses.items → a ≡ get_or c.addresses.items n o → a ≡ and_then (slice_get (function_at m at).callees k) (λ (c : Callee). address_of ns c.name)
the_callee m ns cs at k n d c o a e h ec en lt ea =
    let row : c.addresses.items ≡ callee_addresses ns (function_at m at).callees = ap (λ (x : CalleeAddrs). x.addresses.items) ec ∙ row_there m ns cs at d e h in
    ea ∙ (called_there ns (function_at m at).callees c.addresses.items n o row lt ∙ ap (λ j. and_then (slice_get (function_at m at).callees j) (λ (c : Callee). address_of ns c.name)) en)

-- ---- signatures

pub sig_past : (m : Module) (at s : ℕ) → length m ≤ at → None ≡ slice_get (function_at m at).sigs s
sig_past m at s h = ap (λ (f : Function). slice_get f.sigs s) (sym (at_past m at h))

pub sig_none : (m : Module) (at s n : ℕ) (f : Function) (ss : List Sig) → slice_get m at ≡ Some f → ss ≡ f.sigs → n ≡ s → length ss ≤ n → None ≡ slice_get (function_at m at).sigs s
sig_none m at s n f ss e es en h =
    sym (ap (λ (g : Function). slice_get g.sigs s) (at_found m at f e) ∙ (ap (λ xs. slice_get xs s) (sym es) ∙ (ap (slice_get ss) (sym en) ∙ slice_get_past ss n h)))

pub sig_some : (m : Module) (at s n : ℕ) (f : Function) (ss : List Sig) (sig d : Sig) → slice_get m at ≡ Some f → ss ≡ f.sigs → n ≡ s → n < length ss → sig ≡ get_or ss n d → Some sig ≡ slice_get (function_at m at).sigs s
sig_some m at s n f ss sig d e es en h eg =
    sym (ap (λ (g : Function). slice_get g.sigs s) (at_found m at f e) ∙ (ap (λ xs. slice_get xs s) (sym es) ∙ (ap (slice_get ss) (sym en) ∙ (slice_get-get_or ss n d h ∙ ap Some (sym eg)))))

-- ---- names

name_there : (ms : List Mention) (ns : List FuncName) (k : ℕ) (x d : Mention) → names_of ms ≡ ns → k < length ms → x ≡ get_or ms k d → slice_get ns k ≡ Some x.name.now
name_there ms ns k x d e h ex =
    ap (λ xs. slice_get xs k) (sym e) ∙ go ms k h ∙ ap (λ (y : Mention). Some y.name.now) (sym ex)
  where
    go : (ms : List Mention) (k : ℕ) → k < length ms → slice_get (names_of ms) k ≡ Some (get_or ms k d).name.now
    go [] k h = absurd (omega arith)
    go (y ∷ ms) zero h = refl
    go (y ∷ ms) (suc k) h = go ms k (omega arith)

place_there : (m : Module) (ns : List FuncName) (ps : List (Option ℕ)) (k : ℕ) (n : FuncName) (o : Option ℕ) → ps ≡ map (λ (x : FuncName). place_of x m) ns → slice_get ns k ≡ Some n → get_or ps k o ≡ place_of n m
place_there m [] ps k n o e h = cc
place_there m (x ∷ ns) [] k n o e h = cc
place_there m (x ∷ ns) (p ∷ ps) zero n o e h =
    let q : p ≡ place_of x m = cc in
    let r : x ≡ n = cc in
    q ∙ ap (λ y. place_of y m) r
place_there m (x ∷ ns) (p ∷ ps) (suc k) n o e h = let q : ps ≡ map (λ (x : FuncName). place_of x m) ns = cc in place_there m ns ps k n o q h

-- the function of a name whose place was found
by_name_there : (m : Module) (ms : List Mention) (ps : List (Option ℕ)) (k : ℕ) (x d : Mention) (o p : Option ℕ) (sig : Sig) → names_of ms ≡ names m → ps ≡ map (λ (y : FuncName). place_of y m) (names m) → k < length ms → x ≡ get_or ms k d → p ≡ get_or ps k o → at_name m (slice_get (names m) k) sig ≡ by_address (found_at m p) x.name.now sig
by_name_there m ms ps k x d o p sig e ep h ex eq =
    let there : slice_get (names m) k ≡ Some x.name.now = name_there ms (names m) k x d e h ex in
    ap (λ q. at_name m q sig) there
    ∙ (ap (λ q. by_address q x.name.now sig) (found_by_name m x.name.now)
    ∙ ap (λ q. by_address (found_at m q) x.name.now sig) (sym (place_there m (names m) ps k x.name.now o ep there) ∙ sym eq))

pub name_outside : (m : Module) (ms : List Mention) (ps : List (Option ℕ)) (k : ℕ) (x d : Mention) (o p : Option ℕ) (sig : Sig) → names_of ms ≡ names m → ps ≡ map (λ (y : FuncName). place_of y m) (names m) → k < length ms → x ≡ get_or ms k d → p ≡ get_or ps k o → p ≡ None → Outside x.name.now sig ≡ at_name m (slice_get (names m) k) sig
name_outside m ms ps k x d o p sig e ep h ex eq en =
    sym (by_name_there m ms ps k x d o p sig e ep h ex eq ∙ ap (λ q. by_address (found_at m q) x.name.now sig) en)

pub name_inside : (m : Module) (ms : List Mention) (ps : List (Option ℕ)) (k : ℕ) (x d : Mention) (o p : Option ℕ) (sig : Sig) (at : ℕ) (f : Function) (b : Bool) → names_of ms ≡ names m → ps ≡ map (λ (y : FuncName). place_of y m) (names m) → k < length ms → x ≡ get_or ms k d → p ≡ get_or ps k o → p ≡ Some at → slice_get m at ≡ Some f → b ≡ same_sig f.sig sig → (if b then Inside (function_at m at) else Nowhere) ≡ at_name m (slice_get (names m) k) sig
name_inside m ms ps k x d o p sig at f b e ep h ex eq es get eb =
    sym (by_name_there m ms ps k x d o p sig e ep h ex eq
    ∙ (ap (λ q. by_address (found_at m q) x.name.now sig) es
    ∙ ap (λ c. if c then Inside (function_at m at) else Nowhere) (ap (λ (g : Function). same_sig g.sig sig) (at_found m at f get) ∙ sym eb)))

place_within : (m : Module) (n : FuncName) (at : ℕ) → place_of n m ≡ Some at → at < length m
place_within m n at e =
    let r : MatchOption (place_of n m) (find_function n m ≡ None) (λ k. (0 ≤ k) × (k < 0 + length m) × (find_function n m ≡ slice_get m (k - 0))) = place_found n 0 m in
    go (place_of n m) e r
  where
    go : (o : Option ℕ) → o ≡ Some at → MatchOption o (find_function n m ≡ None) (λ k. (0 ≤ k) × (k < 0 + length m) × (find_function n m ≡ slice_get m (k - 0))) → at < length m
    go None q r = cc
    go (Some k) q r = let s : k ≡ at = cc in let t = r.1 in omega arith

pub inside_there : (m : Module) (ms : List Mention) (ps : List (Option ℕ)) (k : ℕ) (o p : Option ℕ) (at : ℕ) → names_of ms ≡ names m → ps ≡ map (λ (y : FuncName). place_of y m) (names m) → k < length ms → p ≡ get_or ps k o → p ≡ Some at → at < length m
inside_there m [] ps k o p at e ep h eq es = absurd (omega arith)
inside_there m (y ∷ ms) ps k o p at e ep h eq es =
    let x = get_or (y ∷ ms) k y in
    place_within m x.name.now at (sym (place_there m (names m) ps k x.name.now o ep (name_there (y ∷ ms) (names m) k x y e h refl)) ∙ (sym eq ∙ es))

-- ---- the whole

pub found_nowhere : (m : Module) (f : Function) (s a : ℕ) (ns : List FuncName) (sig : Sig) → ns ≡ names m → Some sig ≡ slice_get f.sigs s → name_at ns a ≡ None → Nowhere ≡ found m f (ByAddress s a)
found_nowhere m f s a ns sig en e h =
    sym (ap (λ o. at_name m o sig) (ap (λ xs. name_at xs a) (sym en) ∙ h))
    ∙ ap (λ o. or_missing o (λ sig. at_name m (name_at (names m) a) sig)) e
