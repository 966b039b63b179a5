-- The parts that were found are the quotient, and it has the shape that each quotient keeps.
use Rattle.std.proofs.Common.{◌≡◌, ℕ, ◌<◌, ◌≤◌, ◌^◌, Bool, true, false, ◌==◌, nat_le, cond, List, []}
use Rattle.std.proofs.{Common.{◌∷◌, length, get_or, map, refl, sym, ap, ap₂, ◌∙◌, subst, arith, Option, None}, lemmas.Bool.{ne_eqb, and_from, le-leb}}
use Rattle.std.proofs.{lemmas.List.{length-map, get_or-map, get_or_default}, lemmas.List.Elements.{All-filter, All-cons, All-nil}}
use Rattle.std.proofs.lemmas.List.FromFn.{length-map-range_with_len, get_or-map-range_with_len, fill_by_all}
use Rattle.std.specs.List.{range_with_len, All}
use Rattle.mdp_math.specs.Rational.{ℚ, ◌<ℚ◌}
use Rattle.mdp_math.proofs.{Laws.{+ℚ_comm, zero-+ℚ}, Order.{0ℚ, 1ℚ}, Whole.{one-pos}}
use Rattle.mdp_spec.specs.{Mdp.{Entry, Mdp, states_of}, Row.{entries, IsDistribution, IsRow, IsMdp}}
use Rattle.mdp_rows.specs.{declared.preds.Pred.{Pred}, Preds.{choices_below}, declared.row.Row.{Row}}
use Rattle.mdp_ends.specs.{Ends.{AreEnds}, Quotient.{AreNodes, nodes_in, exits_of, node_row}}
use Rattle.mdp_ends.proofs.{Exits.{IsChoice, all_choices}, Leaving.{node_row-is}}
use Rattle.mdp_quot.specs.{Numbering.{IsNumbering}, ExitLists.{is_exit, AreExits}}
use Rattle.mdp_quot.specs.{Quotient.{Quotient, IsQuotient, IsShaped, exits_at, rows_at, row_of, loop_row, rows_by, node_rows}, declared.node.Node.{Node}}
use Rattle.mdp_quot.specs.QuotientView.{row_in, rows_in, quotient_in}
use Rattle.mdp_quot.proofs.{NodesFound.{all_numbered}, Summing.{length-entries, entry_at}}

-- ---- rows

pub targets_below : (n : ℕ) (ts : List ℕ) (ps : List ℚ) → length ts ≡ length ps → All (λ x. x.target < n) (entries ts ps) → All (λ t. t < n) ts
targets_below n ts ps e h i d l =
    let x : Entry = record { target = 0; prob = 0ℚ } in
    let k : i < length (entries ts ps) = (let z = length-entries ts ps e in omega (arith, z, l)) in
    let low : get_or ts i 0 < n = subst (λ (y : Entry). y.target < n) (entry_at ts ps i x e l) (h i x k) in
    let same = get_or_default ts i 0 d l in
    omega (arith, low, same)

pub loop_distribution : (k : ℕ) → IsDistribution (loop_row k)
loop_distribution k = record {
  ascending = and_from (nat_le 0 k) true (le-leb 0 k (omega arith)) refl;
  positive = All-cons (λ (x : Entry). 0ℚ <ℚ x.prob) (record { target = k; prob = 1ℚ }) [] one-pos (All-nil (λ (x : Entry). 0ℚ <ℚ x.prob));
  total = +ℚ_comm 1ℚ 0ℚ ∙ zero-+ℚ 1ℚ;
}

loop_is : (n k : ℕ) → k < n → IsRow n (loop_row k)
loop_is n k h = record { distribution = loop_distribution k; in_range = All-cons (λ (x : Entry). x.target < n) (record { target = k; prob = 1ℚ }) [] h (All-nil (λ (x : Entry). x.target < n)) }

-- ---- exits

pub lists-choices : (m : Mdp) (parts : List (Option ℕ)) (nodes : List ℕ) (n : ℕ) (lists : List (List Pred)) → AreExits m parts nodes n (choices_below m (states_of m)) lists → All (All (IsChoice m)) lists
lists-choices m parts nodes n lists a k d l =
    subst (λ (xs : List Pred). All (IsChoice m) xs) (sym (a.each k (omega (arith, l, a.count))) ∙ get_or_default lists k [] d l)
    (All-filter (is_exit m parts nodes k) (IsChoice m) (choices_below m (states_of m)) (all_choices m))

-- ---- the quotient

module _ (m : Mdp) (parts : List (Option ℕ)) (nodes : List ℕ) (components first : List (Option ℕ)) (lists : List (List Pred)) (as_many : length parts ≡ states_of m)
    (a : IsNumbering parts (states_of m) nodes components first) (x : AreExits m parts nodes (length components) (choices_below m (states_of m)) lists) where
  pub exits_found : lists ≡ map (exits_of m parts nodes) (range_with_len 0 (nodes_in nodes))
  exits_found =
      fill_by_all (exits_of m parts nodes) lists (nodes_in nodes) [] (x.count ∙ sym a.next) (λ k h. x.each k (omega (arith, h, a.next)))

  pub quotient_found : (q : Quotient) → q.nodes ≡ nodes → q.components ≡ components → q.exits ≡ lists
      → q.rows ≡ map (λ k. rows_by m nodes k (get_or lists k [])) (range_with_len 0 (length lists)) → IsQuotient m parts q
  quotient_found q en ec ee er = record {
    nodes = subst (λ (ns : List ℕ). AreNodes parts ns) (sym en) (all_numbered parts (states_of m) nodes components first a as_many);
    count = ap length ec ∙ sym a.next ∙ ap nodes_in (sym en);
    components = λ s h. ap₂ (λ (cs : List (Option ℕ)) (ns : List ℕ). get_or cs (get_or ns s 0) None) ec en ∙ a.part s h;
    exits = ee ∙ exits_found ∙ ap (λ (ns : List ℕ). map (exits_of m parts ns) (range_with_len 0 (nodes_in ns))) (sym en);
    rows = er ∙ rows_found ∙ ap (λ (ns : List ℕ). map (node_rows m parts ns) (range_with_len 0 (nodes_in ns))) (sym en);
  } where
    rows_found : map (λ k. rows_by m nodes k (get_or lists k [])) (range_with_len 0 (length lists)) ≡ map (node_rows m parts nodes) (range_with_len 0 (nodes_in nodes))
    rows_found =
        fill_by_all (node_rows m parts nodes) (map (λ k. rows_by m nodes k (get_or lists k [])) (range_with_len 0 (length lists))) (nodes_in nodes) []
        (length-map-range_with_len (λ k. rows_by m nodes k (get_or lists k [])) 0 (length lists) ∙ x.count ∙ sym a.next)
        (λ k h. get_or-map-range_with_len (λ k. rows_by m nodes k (get_or lists k [])) 0 (length lists) k k []
        (omega (arith, h, a.next, x.count)) (omega arith) ∙ ap (rows_by m nodes k) (x.each k (omega (arith, h, a.next))))

-- the same by the lists as the code lends them, and the nodes as they lie in the arena
pub quotient_laid : (m : Mdp) (parts : List (Option ℕ)) (nodes : List ℕ) (components first : List (Option ℕ)) (lists : List (List Pred)) → length parts ≡ states_of m
    → IsNumbering parts (states_of m) nodes components first
    → (read : List ℕ) → read ≡ nodes → (count : ℕ) → count ≡ length components → AreExits m parts read count (choices_below m (states_of m)) lists
    → (seen : List (List Pred)) → seen ≡ lists → (made : List Node) → map (λ (y : Node). y.component) made ≡ components → map (λ (y : Node). y.exits.now) made ≡ seen
    → map rows_in made ≡ map (λ k. rows_by m nodes k (get_or seen k [])) (range_with_len 0 (length seen))
    → (node_of : List ℕ) → node_of ≡ nodes → (kept : List Node) → kept ≡ made → IsQuotient m parts (quotient_in node_of kept)
quotient_laid m parts nodes components first lists many i read er count ec x seen es made mc me mr node_of en kept ek =
    let y : AreExits m parts nodes (length components) (choices_below m (states_of m)) lists =
    subst (λ n. AreExits m parts nodes n (choices_below m (states_of m)) lists) ec (subst (λ (ns : List ℕ). AreExits m parts ns count (choices_below m (states_of m)) lists) er x) in
    quotient_found m parts nodes components first lists many i y (quotient_in node_of kept) en
    (ap (λ (xs : List Node). map (λ (z : Node). z.component) xs) ek ∙ mc)
    (ap (λ (xs : List Node). map (λ (z : Node). z.exits.now) xs) ek ∙ me ∙ es)
    (ap (λ (xs : List Node). map rows_in xs) ek ∙ mr ∙ ap (λ (ls : List (List Pred)). map (λ k. rows_by m nodes k (get_or ls k [])) (range_with_len 0 (length ls))) es)

-- ---- the shape

record HasRows (n : ℕ) (exits : List Pred) (rows : List (List Entry)) : Type 0 where
  some : 0 < length rows
  each : length exits ≤ length rows
  are : (i : ℕ) → i < length rows → IsRow n (get_or rows i [])

no_exits : (m : Mdp) (nodes : List ℕ) (n k : ℕ) → k < n → HasRows n [] (loop_row k ∷ [])
no_exits m nodes n k h = record { some = omega arith; each = omega arith; are = λ i l. (let z : 0 ≡ i = omega (arith, l) in subst (λ j. IsRow n (get_or (loop_row k ∷ []) j [])) z (loop_is n k h)) }

rows_shape : (m : Mdp) (nodes : List ℕ) (n k : ℕ) (exits : List Pred) → k < n
    → ((x : Pred) → IsChoice m x → IsRow n (node_row m nodes x.state x.choice)) → All (IsChoice m) exits → HasRows n exits (rows_by m nodes k exits)
rows_shape m nodes n k [] h are all = no_exits m nodes n k h
rows_shape m nodes n k (x ∷ exits) h are all =
    let e : (length (x ∷ exits) == 0) ≡ false = ne_eqb (length (x ∷ exits)) 0 (λ z. omega (arith, z)) in
    subst (λ (b : Bool). HasRows n (x ∷ exits) (cond b (loop_row k ∷ []) (map (λ y. node_row m nodes y.state y.choice) (x ∷ exits)))) (sym e)
    (record {
      some = omega arith;
      each = omega (arith, length-map exits (λ (y : Pred). node_row m nodes y.state y.choice));
      are = λ i l. (let hi : i < length (x ∷ exits) = omega (arith, l, length-map exits (λ (y : Pred). node_row m nodes y.state y.choice)) in
          subst (λ (row : List Entry). IsRow n row) (sym (get_or-map (λ (y : Pred). node_row m nodes y.state y.choice) (x ∷ exits) i x [] hi)) (are (get_or (x ∷ exits) i x) (all i x hi)));
    })

module _ (m : Mdp) (ok : IsMdp m) (parts : List (Option ℕ)) (are : AreEnds m parts) (q : Quotient) (is : IsQuotient m parts q) where
  pub length-exits : length q.exits ≡ nodes_in q.nodes
  length-exits = ap length is.exits ∙ length-map-range_with_len (exits_of m parts q.nodes) 0 (nodes_in q.nodes)

  pub exits-at : (k : ℕ) → k < nodes_in q.nodes → exits_at q k ≡ exits_of m parts q.nodes k
  exits-at k h = ap (λ (xs : List (List Pred)). get_or xs k []) is.exits ∙ get_or-map-range_with_len (exits_of m parts q.nodes) 0 (nodes_in q.nodes) k k [] h (omega arith)

  pub rows-at : (k : ℕ) → k < nodes_in q.nodes → rows_at q k ≡ node_rows m parts q.nodes k
  rows-at k h = ap (λ (xs : List (List (List Entry))). get_or xs k []) is.rows ∙ get_or-map-range_with_len (node_rows m parts q.nodes) 0 (nodes_in q.nodes) k k [] h (omega arith)

  pub shaped : nodes_in q.nodes < 2 ^ 32 → IsShaped q
  shaped few = record {
    few = omega (arith, few, length-exits);
    components = is.count ∙ sym length-exits;
    rows = ap length is.rows ∙ length-map-range_with_len (node_rows m parts q.nodes) 0 (nodes_in q.nodes) ∙ sym length-exits;
    each = λ k h. (let w = at k (omega (arith, h, length-exits)) in (w.some, w.each));
    are_rows = λ k i h l. (let w = at k (omega (arith, h, length-exits)) in subst (λ n. IsRow n (row_of q k i)) (sym length-exits) (w.are i l));
  } where
    at : (k : ℕ) → k < nodes_in q.nodes → HasRows (nodes_in q.nodes) (exits_at q k) (rows_at q k)
    at k h =
        subst (λ (xs : List Pred). HasRows (nodes_in q.nodes) xs (rows_at q k)) (sym (exits-at k h))
        (subst (λ (rows : List (List Entry)). HasRows (nodes_in q.nodes) (exits_of m parts q.nodes k) rows) (sym (rows-at k h))
        (rows_shape m q.nodes (nodes_in q.nodes) k (exits_of m parts q.nodes k) h (λ x known. node_row-is m ok parts are q.nodes is.nodes x.state x.choice known.0 known.1)
        (All-filter (is_exit m parts q.nodes k) (IsChoice m) (choices_below m (states_of m)) (all_choices m))))

-- ---- a row where it lies

pub row_in-at : (node_of : List ℕ) (xs : List Node) (q i : ℕ) (x : Node) (r : Row) → q < length xs → x ≡ get_or xs q x
    → i < length x.rows.now → r ≡ get_or x.rows.now i r → row_in r ≡ row_of (quotient_in node_of xs) q i
row_in-at node_of xs q i x r h is l at =
    ap row_in at ∙ sym (get_or-map row_in x.rows.now i r [] l) ∙ ap (λ (y : Node). get_or (rows_in y) i []) is ∙ ap (λ (rows : List (List Entry)). get_or rows i []) (sym (get_or-map rows_in xs q x [] h))

pub rows_laid : (node_of : List ℕ) (xs : List Node) (q : ℕ) (x : Node) → q < length xs → x ≡ get_or xs q x → length (rows_at (quotient_in node_of xs) q) ≡ length x.rows.now
rows_laid node_of xs q x h is = ap length (get_or-map rows_in xs q x [] h) ∙ ap (λ (y : Node). length (rows_in y)) (sym is) ∙ length-map x.rows.now row_in
