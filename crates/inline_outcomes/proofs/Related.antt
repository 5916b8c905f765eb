-- How a stack of the source and one of the result belong together.
use Rattle.std.proofs.Common.{◌≡◌, ℕ, ◌⊎◌, List, [], ◌∷◌, ◌++◌, length, map, Some}
use Rattle.ir_core.specs.declared.instructions.BlockCall.{BlockCall}
use Rattle.exn_tables.specs.declared.table.Entry.{Entry}
use Rattle.debug_tags.specs.declared.tags.Tag.{Tag}
use Rattle.ir_core.specs.declared.instructions.Arg.TheVariants as arg
use Rattle.ir_core.specs.Module.{Block, Branches, Call, CallTarget, Instruction, Line, Plain, Return, ReturnCall, SequencePoint, TryCall, TryTarget}
use Rattle.ir_core.specs.Lookup.{find_block}
use Rattle.ir_semantics.specs.Machine.{Frame, Wait}
use Rattle.ir_semantics.specs.Step.{numbers}
use Rattle.ir_semantics.specs.Renaming.{Renaming, called_under, entry_under, line_under, tag_under, target_under, try_target_under}
use Rattle.ir_semantics.specs.Import.{sig_after}
use Rattle.ir_semantics.specs.Splice.{Kind, Last, Naming, Splicing, Tries, Within, callee_line, callee_names, caller_names, from, jump_in, kind_of, line_with, named_sig, new_results, spliced, to_after, to_normal, try_with, try_target}
use Rattle.inline_outcomes.proofs.Local.{Injective, Maps, SlotMaps}
use Rattle.inline_outcomes.proofs.Frames.{Local}

-- numbers of one side are no numbers of another
pub record Distinct (n : Naming) : Type 0 where
  pub caller_value : Injective n.caller_value
  pub callee_value : Injective n.callee_value
  pub caller_block : Injective n.caller_block
  pub callee_block : Injective n.callee_block
  pub values : (a b : ℕ) → n.caller_value a ≡ n.callee_value b → ⊥
  pub value_new : (a c i : ℕ) → n.caller_value a ≡ n.new_value c i → ⊥
  pub new_value : (c i j : ℕ) → n.new_value c i ≡ n.new_value c j → i ≡ j
  pub blocks : (a b : ℕ) → n.caller_block a ≡ n.callee_block b → ⊥
  pub caller_after : (a : ℕ) → n.caller_block a ≡ n.after → ⊥
  pub callee_after : (a : ℕ) → n.callee_block a ≡ n.after → ⊥
  pub caller_new : (a c j : ℕ) → n.caller_block a ≡ n.new_block c j → ⊥
  pub callee_new : (a c j : ℕ) → n.callee_block a ≡ n.new_block c j → ⊥
  pub new_after : (c j : ℕ) → n.new_block c j ≡ n.after → ⊥
  pub new_block : (c j b k : ℕ) → n.new_block c j ≡ n.new_block b k → (c ≡ b) × (j ≡ k)

-- a function under other names
abbrev pub RestOf : Renaming → List Line → List Line → Type 0
RestOf r ls ls' = ls' ≡ map (line_under r) ls

-- the instructions on which tags stand
abbrev pub Tagged : Instruction → Type 0
Tagged SequencePoint = Unit {0}
Tagged (Call k args) = Unit {0}
Tagged (ReturnCall k args) = Unit {0}
Tagged (TryCall k sg args normal table) = Unit {0}
Tagged (Plain p0) = ⊥
Tagged (Branches c0) = ⊥
Tagged (Return a) = ⊥

-- the instructions at which a frame waits
abbrev pub Waiting : Instruction → Type 0
Waiting (Call k args) = Unit {0}
Waiting (TryCall k sg args normal table) = Unit {0}
Waiting SequencePoint = ⊥
Waiting (ReturnCall k args) = ⊥
Waiting (Plain p0) = ⊥
Waiting (Branches c0) = ⊥
Waiting (Return a) = ⊥

module _ (S : Splicing) where
  -- f's lines, which may hold the site
  abbrev pub RestF : List Line → List Line → Type 0
  RestF ls ls' = (ls' ≡ map (line_under (caller_names S)) ls) ⊎ ((p : List Line) × (ls ≡ p ++ (S.site ∷ S.behind)) × (ls' ≡ map (line_under (caller_names S)) p ++ (jump_in S ∷ [])))

  -- g's lines inside S.caller
  abbrev pub Plainly : Line → (List Line → Type 0) → List Line → Type 0
  Plainly i more ls' = (t : List Line) × (ls' ≡ callee_line S i ∷ t) × more t

  abbrev pub WithinHead : Instruction → Line → (List Line → Type 0) → List Line → Type 0
  WithinHead (Return vs) i more ls' = (t : List Line) × (ls' ≡ to_after S (map S.naming.callee_value vs) ∷ t)
  WithinHead (ReturnCall k args) i more ls' =
      (c : ℕ) × (t : List Line) × (ls' ≡ line_with S i (Call (called_under (callee_names S) k) (map S.naming.callee_value args)) (new_results S c) ∷ (to_after S (new_results S c) ∷ t))
  WithinHead _ i more ls' = Plainly i more ls'

  abbrev pub TriesHead : BlockCall → List (Entry BlockCall) → Instruction → Line → (List Line → Type 0) → List Line → Type 0
  TriesHead normal table (Return vs) i more ls' = (t : List Line) × (ls' ≡ to_normal S normal vs ∷ t)
  TriesHead normal table (Call k args) i more ls' =
      (b : ℕ) × (k' : Block) × (t : List Line) × (ls' ≡ try_with S i (try_target (called_under (callee_names S) k)) (named_sig S (called_under (callee_names S) k)) args (record { block = b; args = map arg.Ret (from 0 (length i.results)) }) (map (entry_under (caller_names S)) table) ∷ t) × (find_block b (spliced S).blocks ≡ Some k') × (k'.params ≡ map S.naming.callee_value i.results) × more k'.lines
  TriesHead normal table (TryCall k sg args to u) i more ls' =
      (t : List Line) × (ls' ≡ try_with S i (try_target_under (callee_names S) k) (sig_after S.caller S.callee sg) args (target_under (callee_names S) to) (map (entry_under (callee_names S)) u ++ map (entry_under (caller_names S)) table) ∷ t)
  TriesHead normal table (ReturnCall k args) i more ls' =
      (t : List Line) × (ls' ≡ try_with S i (try_target (called_under (callee_names S) k)) (named_sig S (called_under (callee_names S) k)) args (target_under (caller_names S) normal) (map (entry_under (caller_names S)) table) ∷ t)
  TriesHead normal table _ i more ls' = Plainly i more ls'

  abbrev pub Head : Kind → Line → (List Line → Type 0) → List Line → Type 0
  Head Within i more ls' = WithinHead i.inst i more ls'
  Head Last i more ls' = Plainly i more ls'
  Head (Tries normal table) i more ls' = TriesHead normal table i.inst i more ls'

  abbrev pub RestG : Kind → List Line → List Line → Type 0
  RestG k [] ls' = Unit {0}
  RestG k (i ∷ is) ls' = Head k i (RestG k is) ls'

  -- a frame that is one frame of the result; d: the numbers that the result shows below it
  pub data Role : List ℕ → Frame → Frame → Type 0 where
    other : {d : List ℕ} {x x' : Frame} → (r : Renaming) → Local r (RestOf r) x x' → RestOf r x.rest x'.rest → x.extra ≡ d ++ x'.extra → Role d x x'
    caller : {d : List ℕ} {x x' : Frame} → x.func ≡ S.caller → x'.func ≡ (spliced S) → Local (caller_names S) RestF x x' → RestF x.rest x'.rest → x.extra ≡ d ++ x'.extra → Role d x x'
    -- g's frame that stands for f's, after a call in its place
    stands : {d : List ℕ} {x x' : Frame} → (ns : List ℕ) → numbers S.site.tags ≡ Some ns → kind_of S.site.inst ≡ Last → Local (callee_names S) (RestG Last) x x' → RestG Last x.rest x'.rest → x.extra ≡ d ++ (x'.extra ++ ns) → Role d x x'

  abbrev pub ren_of : {d : List ℕ} {x x' : Frame} → Role d x x' → Renaming
  ren_of (other r a b c) = r
  ren_of (caller a b c d e) = (caller_names S)
  ren_of (stands ns a b c d e) = (callee_names S)

  abbrev pub rest_of : {d : List ℕ} {x x' : Frame} → Role d x x' → List Line → List Line → Type 0
  rest_of (other r a b c) = RestOf r
  rest_of (caller a b c d e) = RestF
  rest_of (stands ns a b c d e) = RestG Last

  -- what the role makes of a line where the frame waits or stands
  abbrev pub line_of : {d : List ℕ} {x x' : Frame} → Role d x x' → Line → Line
  line_of (other r a b c) i = line_under r i
  line_of (caller a b c d e) i = line_under (caller_names S) i
  line_of (stands ns a b c d e) i = callee_line S i

  -- f's frame y, which waits at the site, has its values and slots in x'
  pub record Waits (d : List ℕ) (y : Wait) (x' : Frame) : Type 0 where
    pub line : y.line ≡ S.site
    pub func : y.frame.func ≡ S.caller
    pub func' : x'.func ≡ (spliced S)
    pub rest : y.frame.rest ≡ S.behind
    pub env : Maps S.naming.caller_value y.frame.env x'.env
    pub slots : SlotMaps (length S.caller.slots) (λ k. k) y.frame.slots x'.slots
    pub extra : y.frame.extra ≡ d ++ x'.extra

  abbrev pub NotLast : Kind → Type 0
  NotLast Within = Unit {0}
  NotLast Last = ⊥
  NotLast (Tries normal table) = Unit {0}

  -- two frames that are one: g's frame x, entered by the site, and f's frame y
  pub record Joined (d : List ℕ) (k : Kind) (x : Frame) (y : Wait) (x' : Frame) : Type 0 where
    pub waits : Waits d y x'
    pub not_last : NotLast k
    pub func : x.func ≡ S.callee
    pub env : Maps S.naming.callee_value x.env x'.env
    pub slots : SlotMaps (length S.callee.slots) (callee_names S).slot x.slots x'.slots
    pub extra : x.extra ≡ []

  -- the result's wait after a call in place of g's frame
  abbrev pub TailRest : Kind → Line → List Line → Type 0
  TailRest Within i' rest = (c : ℕ) × (k' : CallTarget) × (args : List ℕ) × (t : List Line) × (i'.inst ≡ Call k' args) × (i'.results ≡ new_results S c) × (rest ≡ to_after S (new_results S c) ∷ t)
  TailRest Last i' rest = ⊥
  TailRest (Tries normal table) i' rest = (k' : TryTarget) × (sg : ℕ) × (args : List ℕ) × (i'.inst ≡ TryCall k' sg args (target_under (caller_names S) normal) (map (entry_under (caller_names S)) table))

  pub data Below : List ℕ → List Wait → List Wait → Type 0 where
    none : Below [] [] []
    alone : {d : List ℕ} {y y' : Wait} {s s' : List Wait} → (role : Role d y.frame y'.frame) → y'.line ≡ line_of role y.line → Waiting y.line.inst → Below d s s' → Below [] (y ∷ s) (y' ∷ s')
    inside : {d : List ℕ} {y z y' : Wait} {s s' : List Wait} → (k : Kind) → kind_of S.site.inst ≡ k → Joined d k y.frame z y'.frame → RestG k (y.line ∷ y.frame.rest) (y'.line ∷ y'.frame.rest) → Waiting y.line.inst → Below d s s' → Below [] (y ∷ (z ∷ s)) (y' ∷ s')
    -- g's frame was replaced: e are the numbers that the frame above has in the source
    left : {d e : List ℕ} {z y' : Wait} {s s' : List Wait} → (k : Kind) → kind_of S.site.inst ≡ k → Waits d z y'.frame → TailRest k y'.line y'.frame.rest → (ts : List Tag) → numbers ts ≡ Some e → y'.line.tags ≡ map (tag_under (caller_names S)) S.site.tags ++ map (tag_under (callee_names S)) ts → Below d s s' → Below e (z ∷ s) (y' ∷ s')

  pub data Stack : Frame → List Wait → Frame → List Wait → Type 0 where
    alone_top : {d : List ℕ} {x x' : Frame} {s s' : List Wait} → Role d x x' → Below d s s' → Stack x s x' s'
    inside_top : {d : List ℕ} {x : Frame} {z : Wait} {x' : Frame} {s s' : List Wait} → (k : Kind) → kind_of S.site.inst ≡ k → Joined d k x z x' → RestG k x.rest x'.rest → Below d s s' → Stack x (z ∷ s) x' s'
