-- A block that is filled, parameter by parameter and line by line.
use Rattle.std.proofs.Common.{◌≡◌, ℕ, suc, ◌+◌, ◌<◌, inl, List, [], ◌∷◌, ◌++◌, length, map, take, drop, get_or, slice_get, Option, Some, refl, sym, ap, ap₂, subst, ◌∙◌, arith, append_assoc, length-append}
use Rattle.std.specs.Prelude.{flat_map}
use Rattle.std.specs.List.{enumerate_from}
use Rattle.std.proofs.Math.Numerals.{add-one}
use Rattle.std.proofs.Math.Seq.{drop-length, take-length}
use Rattle.std.proofs.lemmas.Grind.{flat_map-append}
use Rattle.std.proofs.lemmas.List.{append-nil, map-append}
use Rattle.ir_core.specs.declared.signatures.Ty.{Ty}
use Rattle.ir_core.specs.Edits.{at_block, put_line, put_param}
use Rattle.ir_core.specs.Lists.{In, Different, Each, Below}
use Rattle.ir_core.specs.Lookup.{block_numbers, definitions, line_definitions, type_in}
use Rattle.ir_core.specs.Module.{Block, Function, Line}
use Rattle.ir_core.specs.Sound.{BlockInRange, CanAdd, LineInRange, counts_of, instruction_count}
use Rattle.ir_core.proofs.Members.{each_right}
use Rattle.ir_core.proofs.Splitting.{block_definitions}
use Rattle.ir_semantics.specs.Renaming.{Renaming}
use Rattle.clif_insts.specs.declared.raw.RawInst.{RawInst}
use Rattle.token_reader.specs.declared.raw.RawName.{RawName}
use Rattle.clif_read.specs.declared.raw.RawBlock.{RawBlock}
use Rattle.clif_read.specs.declared.raw.RawBlockParam.{RawBlockParam}
use Rattle.clif_read.specs.declared.raw.RawFunction.{RawFunction}
use Rattle.clif_read.specs.declared.raw.RawLine.{RawLine}
use Rattle.clif_read.specs.declared.raw.RawLine.TheVariants as line
use Rattle.clif_read.specs.declared.raw.RawTag.{RawTag}
use Rattle.clif_names.specs.declared.limits.Limit.TheVariants.{Entity}
use Rattle.name_tables.specs.Definitions.{lines}
use Rattle.clif_names.specs.Limits.{all_words, decl_limits, line_limits, name_limits, of_word}
use Rattle.clif_lines.specs.Keeping.{AllKeep, Keeps}
use Rattle.clif_meaning.specs.Instructions.{known, line_of, type_for}
use Rattle.clif_resolve.specs.Filling.{begun, empty_block, empty_from, filled, IsReady, meant, opened, whole_before}
use Rattle.clif_resolve.specs.FormTypes.{type_after, types_of}
use Rattle.clif_meaning.specs.Meaning.{block_with, lines_with}
use Rattle.clif_resolve.proofs.Opening.{at_middle, count_middle, defined_middle, differ, enumerate_begun, fresh, in_middle, number_range, split_lines, split_params}
use Rattle.clif_lines.proofs.Parting.{each_all, each_at, each_part, got, got_or, parted, parted_long, parted_next, parted_one}

-- ---- empty blocks

empties_define : (k : ℕ) (bs : List RawBlock) → definitions (map empty_block (enumerate_from k bs)) ≡ []
empties_define k [] = refl
empties_define k (b ∷ bs) = empties_define (k + 1) bs

empties_count : (k : ℕ) (bs : List RawBlock) → instruction_count (map empty_block (enumerate_from k bs)) ≡ 0
empties_count k [] = refl
empties_count k (b ∷ bs) = let a = empties_count (k + 1) bs in omega (arith, a)

module _ (raw : RawFunction) (at : Renaming) where
  abbrev types : List Ty
  types = types_of raw at

  abbrev with_block : ℕ × RawBlock → Block
  with_block = block_with raw at.value (enumerate_from 0 types)

  abbrev written : RawLine → List Line
  written = lines_with raw at.value (enumerate_from 0 types)

  -- a line of the block under the numbers of its words
  pub added_is : IsReady raw at → (location : Option ℕ) (tags ts : List RawTag) (results rs : List RawName) (inst : RawInst) (ty : Ty) (x : Line)
      → ts ≡ tags → rs ≡ results → ty ≡ type_after at types inst → x ≡ line_of at ty ts rs inst → written (line.Inst location tags results inst) ≡ x ∷ []
  added_is ready location tags ts results rs inst ty x same_tags same_results typed is =
      ap (λ (r : Renaming). line_of r (known (type_for (type_in (enumerate_from 0 types)) r inst)) tags results inst ∷ []) (sym ready.words)
      ∙ ap (λ t. line_of at t tags results inst ∷ []) (sym typed)
      ∙ ap (λ xs. line_of at ty xs results inst ∷ []) (sym same_tags)
      ∙ ap (λ xs. line_of at ty ts xs inst ∷ []) (sym same_results)
      ∙ ap (λ l. l ∷ []) (sym is)

  pub typed_by : (place params lines : ℕ) (inst : RawInst) (f : Function) (ty : Ty) → f ≡ opened raw at place params lines → ty ≡ known (type_for (type_in f.types) at inst) → ty ≡ type_after at types inst
  typed_by place params lines inst f ty is typed = typed ∙ ap (λ (x : Function). known (type_for (type_in x.types) at inst)) is

  pub line_keeps : IsReady raw at → (place : ℕ) (b : RawBlock) → slice_get raw.blocks place ≡ Some b → (i : ℕ) (l : RawLine) → slice_get b.lines i ≡ Some l → AllKeep (line_limits l)
  line_keeps ready place b got i l here =
      each_at (λ (x : RawLine). AllKeep (line_limits x)) b.lines i l
      (each_part (λ (x : RawLine). AllKeep (line_limits x)) (λ (x : RawBlock). x.lines) raw.blocks place b
      (each_all Keeps line_limits (lines raw)
      (each_right Keeps ((map (of_word Entity) (all_words raw) ++ name_limits raw.name) ++ flat_map decl_limits raw.decls) (flat_map line_limits (lines raw)) ready.limits)) got) here

  pub filled_all : filled raw at (length raw.blocks) ≡ meant raw at
  filled_all =
      ap (λ bs. record (meant raw at) { blocks = bs })
      (ap₂ (λ xs ys. map with_block (enumerate_from 0 xs) ++ map empty_block (enumerate_from (length raw.blocks) ys)) (take-length raw.blocks) (drop-length raw.blocks)
      ∙ append-nil (map with_block (enumerate_from 0 raw.blocks)))

  module _ (place : ℕ) (b : RawBlock) (got : slice_get raw.blocks place ≡ Some b) where
    abbrev done : List Block
    done = whole_before raw at place

    abbrev empties : List Block
    empties = empty_from raw at (suc place)

    abbrev rest : List Block
    rest = map with_block (enumerate_from (suc place) (drop (suc place) raw.blocks))

    abbrev part : ℕ → ℕ → Block
    part params lines = begun raw at params lines (place, b)

    abbrev whole : Block
    whole = with_block (place, b)

    one_block : take 1 (drop place raw.blocks) ≡ b ∷ []
    one_block = ap (take 1) (parted_one raw.blocks place b got)

    pub opened_blocks : (params lines : ℕ) → opened raw at place params lines ≡ record (meant raw at) { blocks = done ++ part params lines ∷ empties }
    opened_blocks params lines =
        ap (λ bs. record (meant raw at) { blocks = done ++ (map (begun raw at params lines) (enumerate_from place bs) ++ empties) }) one_block

    pub opened_begins : opened raw at place 0 0 ≡ filled raw at place
    opened_begins =
        opened_blocks 0 0
        ∙ ap (λ n. record (meant raw at) { blocks = done ++ part 0 0 ∷ map empty_block (enumerate_from n (drop (suc place) raw.blocks)) }) (sym (add-one place))
        ∙ ap (λ bs. record (meant raw at) { blocks = done ++ map empty_block (enumerate_from place bs) }) (sym (parted_one raw.blocks place b got))

    part_whole : part (length b.params) (length b.lines) ≡ whole
    part_whole =
        ap₂ (λ ps ls. record { number = place; params = map (λ (p : RawBlockParam). at.value p.value.number) ps; lines = flat_map written ls }) (take-length b.params) (take-length b.lines)

    whole_next : whole_before raw at (place + 1) ≡ done ++ whole ∷ []
    whole_next =
        ap (λ n. map with_block (enumerate_from 0 (take n raw.blocks))) (add-one place)
        ∙ ap (λ bs. map with_block (enumerate_from 0 bs)) (parted_next raw.blocks place b got)
        ∙ ap (map with_block) (enumerate_begun (take place raw.blocks) (b ∷ []))
        ∙ map-append with_block (enumerate_from 0 (take place raw.blocks)) (enumerate_from (length (take place raw.blocks)) (b ∷ []))
        ∙ ap (λ n. done ++ with_block (n, b) ∷ []) (parted_long raw.blocks place b got)

    pub opened_ends : opened raw at place (length b.params) (length b.lines) ≡ filled raw at (place + 1)
    opened_ends =
        opened_blocks (length b.params) (length b.lines)
        ∙ ap (λ x. record (meant raw at) { blocks = done ++ x ∷ empties }) part_whole
        ∙ ap (λ bs. record (meant raw at) { blocks = bs })
        (sym (append_assoc done (whole ∷ []) empties)
        ∙ ap (λ xs. xs ++ empties) (sym whole_next)
        ∙ ap (λ n. whole_before raw at (place + 1) ++ map empty_block (enumerate_from n (drop n raw.blocks))) (sym (add-one place)))

    -- ---- the whole function

    pub all_blocks : (meant raw at).blocks ≡ done ++ whole ∷ rest
    all_blocks =
        ap (λ bs. map with_block (enumerate_from 0 bs)) (parted raw.blocks place b got)
        ∙ ap (map with_block) (enumerate_begun (take place raw.blocks) (b ∷ drop (suc place) raw.blocks))
        ∙ map-append with_block (enumerate_from 0 (take place raw.blocks)) (enumerate_from (length (take place raw.blocks)) (b ∷ drop (suc place) raw.blocks))
        ∙ ap (λ n. done ++ map with_block (enumerate_from n (b ∷ drop (suc place) raw.blocks))) (parted_long raw.blocks place b got)
        ∙ ap (λ n. done ++ whole ∷ map with_block (enumerate_from n (drop (suc place) raw.blocks))) (add-one place)

    not_before : In place (block_numbers done) → ⊥
    not_before i =
        let q = number_range with_block (λ p. refl) 0 (take place raw.blocks) place i in
        let l = parted_long raw.blocks place b got in
        let r = q.1 in
        omega (arith, l, r)

    not_behind : In place (block_numbers empties) → ⊥
    not_behind i = let q = number_range empty_block (λ p. refl) (suc place) (drop (suc place) raw.blocks) place i in let r = q.0 in omega (arith, r)

    pub put_at : (g : Block → Block) (params lines : ℕ) → at_block place g (opened raw at place params lines).blocks ≡ done ++ g (part params lines) ∷ empties
    put_at g params lines =
        ap (λ (f : Function). at_block place g f.blocks) (opened_blocks params lines)
        ∙ at_middle place g done empties (part params lines) refl not_before not_behind

    pub stands : (params lines : ℕ) → In place (block_numbers (opened raw at place params lines).blocks)
    stands params lines = subst (λ (f : Function). In place (block_numbers f.blocks)) (sym (opened_blocks params lines)) (in_middle done empties (part params lines))

    pub defined_there : (params lines : ℕ) → definitions (opened raw at place params lines).blocks ≡ definitions done ++ block_definitions (part params lines)
    defined_there params lines =
        ap (λ (f : Function). definitions f.blocks) (opened_blocks params lines)
        ∙ defined_middle done empties (part params lines) (empties_define (suc place) (drop (suc place) raw.blocks))

    module _ (ready : IsReady raw at) where
      once : Different (definitions (done ++ whole ∷ rest))
      once = subst (λ bs. Different (definitions bs)) all_blocks ready.sound.defined_once

      in_range : BlockInRange (counts_of (meant raw at)) whole
      in_range = (each_right (BlockInRange (counts_of (meant raw at))) done (whole ∷ rest) (subst (Each (BlockInRange (counts_of (meant raw at)))) all_blocks ready.sound.blocks)).0

      blocks_long : length (opened raw at place 0 0).blocks ≡ length (meant raw at).blocks
      blocks_long =
          ap (λ (f : Function). length f.blocks) (opened_blocks 0 0) ∙ length-append done (part 0 0 ∷ empties)
          ∙ (let e = length-enumerated empty_block (suc place) (drop (suc place) raw.blocks) in
          let w = length-enumerated with_block (suc place) (drop (suc place) raw.blocks) in
          let a = length-append done (whole ∷ rest) in
          let t = ap length all_blocks in
          omega (arith, e, w, a, t))
        where
          length-enumerated : {A : Type 0} (f : ℕ × A → Block) (k : ℕ) (xs : List A) → length (map f (enumerate_from k xs)) ≡ length xs
          length-enumerated f k [] = refl
          length-enumerated f k (x ∷ xs) = ap suc (length-enumerated f (k + 1) xs)

      counts_kept : (params lines : ℕ) → counts_of (opened raw at place params lines) ≡ counts_of (meant raw at)
      counts_kept params lines = ap (λ n. record (counts_of (meant raw at)) { blocks = n }) (same params lines)
        where
          same : (params lines : ℕ) → length (opened raw at place params lines).blocks ≡ length (meant raw at).blocks
          same params lines =
              ap (λ (f : Function). length f.blocks) (opened_blocks params lines) ∙ length-append done (part params lines ∷ empties)
              ∙ sym (length-append done (part 0 0 ∷ empties)) ∙ sym (ap (λ (f : Function). length f.blocks) (opened_blocks 0 0)) ∙ blocks_long

      -- ---- a parameter

      module _ (i : ℕ) (p : RawBlockParam) (here : slice_get b.params i ≡ Some p) where
        abbrev number : RawBlockParam → ℕ
        number p = at.value p.value.number

        params_next : map number (take (i + 1) b.params) ≡ map number (take i b.params) ++ number p ∷ []
        params_next = ap (λ n. map number (take n b.params)) (add-one i) ∙ ap (map number) (parted_next b.params i p here) ∙ map-append number (take i b.params) (p ∷ [])

        params_whole : whole.params ≡ map number (take i b.params) ++ number p ∷ map number (drop (suc i) b.params)
        params_whole = ap (map number) (parted b.params i p here) ∙ map-append number (take i b.params) (p ∷ drop (suc i) b.params)

        pub param_step : record (meant raw at) { blocks = at_block place (put_param (number p)) (opened raw at place i 0).blocks } ≡ opened raw at place (i + 1) 0
        param_step =
            ap (λ bs. record (meant raw at) { blocks = bs })
            (put_at (put_param (number p)) i 0 ∙ ap (λ ps. done ++ record { number = place; params = ps; lines = [] } ∷ empties) (sym params_next))
            ∙ sym (opened_blocks (i + 1) 0)

        pub param_declared : number p < length (meant raw at).types
        param_declared = (each_right (λ v. v < length (meant raw at).types) (map number (take i b.params)) (number p ∷ map number (drop (suc i) b.params)) (subst (Below (length (meant raw at).types)) params_whole in_range.params)).0

        pub param_fresh : In (number p) (definitions (opened raw at place i 0).blocks) → ⊥
        param_fresh j =
            fresh done rest whole once (map number (take i b.params)) (number p ∷ []) (map number (drop (suc i) b.params) ++ line_definitions whole.lines)
            (split_params whole (map number (take i b.params)) (map number (drop (suc i) b.params)) (number p) params_whole) (number p) (inl refl)
            (subst (In (number p)) (defined_there i 0 ∙ ap (λ xs. definitions done ++ xs) (append-nil (map number (take i b.params)))) j)

      -- ---- a line

      module _ (i : ℕ) (l : RawLine) (here : slice_get b.lines i ≡ Some l) where
        abbrev before : List Line
        before = flat_map written (take i b.lines)

        abbrev behind : List Line
        behind = flat_map written (drop (suc i) b.lines)

        lines_next : flat_map written (take (i + 1) b.lines) ≡ before ++ written l
        lines_next =
            ap (λ n. flat_map written (take n b.lines)) (add-one i) ∙ ap (flat_map written) (parted_next b.lines i l here)
            ∙ flat_map-append written (take i b.lines) (l ∷ []) ∙ ap (λ xs. before ++ xs) (append-nil (written l))

        lines_whole : whole.lines ≡ before ++ (written l ++ behind)
        lines_whole = ap (flat_map written) (parted b.lines i l here) ∙ flat_map-append written (take i b.lines) (l ∷ drop (suc i) b.lines)

        -- an alias line adds nothing
        pub none_step : written l ≡ [] → opened raw at place (length b.params) i ≡ opened raw at place (length b.params) (i + 1)
        none_step none =
            opened_blocks (length b.params) i
            ∙ ap (λ ls. record (meant raw at) { blocks = done ++ record { number = place; params = map (λ (p : RawBlockParam). at.value p.value.number) (take (length b.params) b.params); lines = ls } ∷ empties })
            (sym (lines_next ∙ ap (λ xs. before ++ xs) none ∙ append-nil before))
            ∙ sym (opened_blocks (length b.params) (i + 1))

        module _ (x : Line) (is : written l ≡ x ∷ []) where
          line_whole : whole.lines ≡ before ++ x ∷ behind
          line_whole = lines_whole ∙ ap (λ xs. before ++ (xs ++ behind)) is

          pub line_step : record (meant raw at) { blocks = at_block place (put_line x) (opened raw at place (length b.params) i).blocks } ≡ opened raw at place (length b.params) (i + 1)
          line_step =
              ap (λ bs. record (meant raw at) { blocks = bs })
              (put_at (put_line x) (length b.params) i
              ∙ ap (λ ls. done ++ record { number = place; params = map (λ (p : RawBlockParam). at.value p.value.number) (take (length b.params) b.params); lines = ls } ∷ empties)
              (sym (lines_next ∙ ap (λ xs. before ++ xs) is)))
              ∙ sym (opened_blocks (length b.params) (i + 1))

          pub line_ranges : LineInRange (counts_of (opened raw at place (length b.params) i)) x
          line_ranges = subst (λ n. LineInRange n x) (sym (counts_kept (length b.params) i))
              (each_right (LineInRange (counts_of (meant raw at))) before (x ∷ behind) (subst (Each (LineInRange (counts_of (meant raw at)))) line_whole in_range.lines)).0

          parts : block_definitions whole ≡ (whole.params ++ line_definitions before) ++ (x.results ++ line_definitions behind)
          parts = split_lines whole before behind x line_whole

          pub line_differs : Different x.results
          line_differs = differ done rest whole once (whole.params ++ line_definitions before) x.results (line_definitions behind) parts

          pub line_fresh : (v : ℕ) → In v x.results → In v (definitions (opened raw at place (length b.params) i).blocks) → ⊥
          line_fresh v j k =
              fresh done rest whole once (whole.params ++ line_definitions before) x.results (line_definitions behind) parts v j
              (subst (In v) (defined_there (length b.params) i
              ∙ ap (λ ps. definitions done ++ (map (λ (p : RawBlockParam). at.value p.value.number) ps ++ line_definitions before)) (take-length b.params)) k)

          pub line_few : CanAdd (instruction_count (opened raw at place (length b.params) i).blocks)
          line_few =
              let s = ready.sound.small.instructions in
              let e = ap instruction_count all_blocks in
              let o = ap (λ (f : Function). instruction_count f.blocks) (opened_blocks (length b.params) i) in
              let w = ap length line_whole in
              let a = length-append before (x ∷ behind) in
              let short : length (part (length b.params) i).lines < length whole.lines = omega (arith, w, a) in
              let m = count_middle done rest empties (part (length b.params) i) whole (empties_count (suc place) (drop (suc place) raw.blocks)) short in
              omega (arith, s, e, o, m)

-- ---- what stands at an index of a slice

pub read_item : {A : Type 0} (xs ys : List A) (i : ℕ) (x : A) → xs ≡ ys → i < length ys → x ≡ get_or xs i x → slice_get ys i ≡ Some x
read_item xs ys i x same lt is = ap (λ zs. slice_get zs i) (sym same) ∙ got xs i x (subst (λ zs. i < length zs) (sym same) lt) is

pub read_copy : {A : Type 0} (xs ys : List A) (i : ℕ) (d : A) → xs ≡ ys → i < length ys → slice_get ys i ≡ Some (get_or xs i d)
read_copy xs ys i d same lt = ap (λ zs. slice_get zs i) (sym same) ∙ got_or xs i d (subst (λ zs. i < length zs) (sym same) lt)
