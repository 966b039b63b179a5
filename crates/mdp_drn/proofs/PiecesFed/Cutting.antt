-- Lines, as a text grows at its end.
use Rattle.std.proofs.{Common.{◌≡◌, ℕ, Bool, true, false, cond, List, [], ◌∷◌, ◌++◌, refl, sym, ap, subst, ◌∙◌, append_assoc}, lemmas.List.{append-nil}}
use Rattle.std.proofs.lemmas.List.Splits.{slice_split_none}
use Rattle.std.specs.List.{slice_split, onto_first, All}
use Rattle.mdp_drn.specs.Lines.{is_line_feed, all_but_last, last_part, whole_lines, open_line}

-- front before the first part
abbrev pub onto : List ℕ → List (List ℕ) → List (List ℕ)
onto front [] = front ∷ []
onto front (part ∷ parts) = (front ++ part) ∷ parts

-- the parts of a text and of the text behind it
abbrev pub joined : List (List ℕ) → List (List ℕ) → List (List ℕ)
joined ps qs = all_but_last ps ++ onto (last_part ps) qs

abbrev cut : List ℕ → List (List ℕ)
cut xs = slice_split is_line_feed xs

onto-nothing : (b : Bool) (y : ℕ) (parts : List (List ℕ)) → onto [] (cond b ([] ∷ parts) (onto_first y parts)) ≡ cond b ([] ∷ parts) (onto_first y parts)
onto-nothing true y parts = refl
onto-nothing false y [] = refl
onto-nothing false y (part ∷ parts) = refl

onto-cut : (ys : List ℕ) → onto [] (cut ys) ≡ cut ys
onto-cut [] = refl
onto-cut (y ∷ ys) = onto-nothing (is_line_feed y) y (cut ys)

is_cons : (b : Bool) (y : ℕ) (parts : List (List ℕ)) → (part : List ℕ) × (rest : List (List ℕ)) × (cond b ([] ∷ parts) (onto_first y parts) ≡ part ∷ rest)
is_cons true y parts = ([], parts, refl)
is_cons false y [] = (y ∷ [], [], refl)
is_cons false y (part ∷ parts) = (y ∷ part, parts, refl)

cut-cons : (xs : List ℕ) → (part : List ℕ) × (rest : List (List ℕ)) × (cut xs ≡ part ∷ rest)
cut-cons [] = ([], [], refl)
cut-cons (x ∷ xs) = is_cons (is_line_feed x) x (cut xs)

joined-step : (b : Bool) (x : ℕ) (part : List ℕ) (parts qs : List (List ℕ))
    → cond b ([] ∷ joined (part ∷ parts) qs) (onto_first x (joined (part ∷ parts) qs)) ≡ joined (cond b ([] ∷ part ∷ parts) (onto_first x (part ∷ parts))) qs
joined-step true x part parts qs = refl
joined-step false x part [] [] = refl
joined-step false x part [] (q ∷ qs) = refl
joined-step false x part (next ∷ parts) qs = refl

cut-append : (xs ys : List ℕ) → cut (xs ++ ys) ≡ joined (cut xs) (cut ys)
cut-append [] ys = sym (onto-cut ys)
cut-append (x ∷ xs) ys =
    let c = cut-cons xs in
    let step = subst
    (λ (ps : List (List ℕ)). cond (is_line_feed x) ([] ∷ joined ps (cut ys)) (onto_first x (joined ps (cut ys))) ≡ joined (cond (is_line_feed x) ([] ∷ ps) (onto_first x ps)) (cut ys))
    (sym c.2) (joined-step (is_line_feed x) x c.0 c.1 (cut ys)) in
    ap (λ (ps : List (List ℕ)). cond (is_line_feed x) ([] ∷ ps) (onto_first x ps)) (cut-append xs ys) ∙ step

pub all_but_last-push : (ps : List (List ℕ)) (p : List ℕ) → all_but_last (ps ++ p ∷ []) ≡ ps
all_but_last-push [] p = refl
all_but_last-push (q ∷ []) p = refl
all_but_last-push (q ∷ r ∷ ps) p = ap (λ (rest : List (List ℕ)). q ∷ rest) (all_but_last-push (r ∷ ps) p)

pub last_part-push : (ps : List (List ℕ)) (p : List ℕ) → last_part (ps ++ p ∷ []) ≡ p
last_part-push [] p = refl
last_part-push (q ∷ []) p = refl
last_part-push (q ∷ r ∷ ps) p = last_part-push (r ∷ ps) p

-- bytes without a line feed
pub whole-same : (xs ys : List ℕ) → All (λ b. is_line_feed b ≡ false) ys → whole_lines (xs ++ ys) ≡ whole_lines xs
whole-same xs ys none =
    let e : cut (xs ++ ys) ≡ whole_lines xs ++ (open_line xs ++ ys) ∷ [] = cut-append xs ys ∙ ap (joined (cut xs)) (slice_split_none is_line_feed ys none) in
    ap all_but_last e ∙ all_but_last-push (whole_lines xs) (open_line xs ++ ys)

pub open-more : (xs ys : List ℕ) → All (λ b. is_line_feed b ≡ false) ys → open_line (xs ++ ys) ≡ open_line xs ++ ys
open-more xs ys none =
    let e : cut (xs ++ ys) ≡ whole_lines xs ++ (open_line xs ++ ys) ∷ [] = cut-append xs ys ∙ ap (joined (cut xs)) (slice_split_none is_line_feed ys none) in
    ap last_part e ∙ last_part-push (whole_lines xs) (open_line xs ++ ys)

-- a line feed
cut-line : (xs : List ℕ) → cut (xs ++ 10 ∷ []) ≡ (whole_lines xs ++ open_line xs ∷ []) ++ [] ∷ []
cut-line xs = cut-append xs (10 ∷ []) ∙ sym (append_assoc (whole_lines xs) ((open_line xs ++ []) ∷ []) ([] ∷ []))
    ∙ ap (λ (line : List ℕ). (whole_lines xs ++ line ∷ []) ++ [] ∷ []) (append-nil (open_line xs))

pub whole-more : (xs : List ℕ) → whole_lines (xs ++ 10 ∷ []) ≡ whole_lines xs ++ open_line xs ∷ []
whole-more xs = ap all_but_last (cut-line xs) ∙ all_but_last-push (whole_lines xs ++ open_line xs ∷ []) []

pub open-none : (xs : List ℕ) → open_line (xs ++ 10 ∷ []) ≡ []
open-none xs = ap last_part (cut-line xs) ∙ last_part-push (whole_lines xs ++ open_line xs ∷ []) []
