-- The path to the last row of an outline: its nodes, and that all behind each of them is deeper.
use Rattle.std.proofs.Common.{◌≡◌, ◌+◌, ◌-◌, ◌≤◌, ◌<◌, ◌⊎◌, inl, inr, ℕ, zero, suc, true, List, [], ◌∷◌, ◌++◌, length, take, drop, refl, ap, sym, ◌∙◌, subst, arith, Some, append_assoc, append-nil}
use Rattle.std.specs.Prelude.{slice_get}
use Rattle.std.proofs.lemmas.List.{length-append, length-take-le, take-append-le, drop-append-le, take_all, drop_all}
use Rattle.ac_model.specs.Outline.{follows}
use Rattle.ac_model.proofs.Depths.{ends, ends-append, AllFrom, first_of}
use Rattle.ac_snapshot.specs.FillTrees.{path_from}

-- what stands in a list that was cut short and then got one more: it stood there before, or is the new one at the end
pub kept_or_new : {X : Type 0} (n : ℕ) (xs : List X) (x : X) (k : ℕ) (y : X) → slice_get (take n xs ++ x ∷ []) k ≡ Some y →
    ((k < n) × (slice_get xs k ≡ Some y)) ⊎ ((k ≡ length (take n xs)) × (x ≡ y))
kept_or_new zero xs x zero y h = inr (refl, cc)
kept_or_new zero xs x (suc k) y h = cc
kept_or_new (suc n) [] x zero y h = inr (refl, cc)
kept_or_new (suc n) [] x (suc k) y h = cc
kept_or_new (suc n) (z ∷ xs) x zero y h = inl (omega arith, h)
kept_or_new (suc n) (z ∷ xs) x (suc k) y h =
    elim (kept_or_new n xs x k y h) [
      | inl kept ↦ inl (let below = kept.0 in omega arith, kept.1)
      | inr new ↦ inr (ap suc new.0, new.1)
    ]

all_push : (least : ℕ) (ds : List ℕ) (d : ℕ) → AllFrom least ds → least ≤ d → AllFrom least (ds ++ d ∷ [])
all_push least [] d h le = (le, tt)
all_push least (e ∷ ds) d h le = (h.0, all_push least ds d h.1 le)

-- a node of depth k + 1, the root or one of the rows, and all behind it is deeper
pub record IsOpen (ds : List ℕ) (k name : ℕ) : Type 0 where
  pub within : name ≤ length ds
  pub reached : ends 1 (take name ds) ≡ k + 1
  pub deeper : AllFrom (k + 2) (drop name ds)

-- the path to the last row: as long as that is deep, and of such nodes alone
pub record IsPath (ds path : List ℕ) : Type 0 where
  pub long : length path ≡ ends 1 ds
  pub are_open : (k name : ℕ) → slice_get path k ≡ Some name → IsOpen ds k name

module _ (ds : List ℕ) (d : ℕ) where
  stays_open : (k name : ℕ) → k < d - 1 → IsOpen ds k name → IsOpen (ds ++ d ∷ []) k name
  stays_open k name below o = record {
    within = let within = o.within in omega (arith, length-append ds (d ∷ []));
    reached = rw (take-append-le name ds (d ∷ []) o.within) o.reached;
    deeper = rw (drop-append-le name ds (d ∷ []) o.within) (all_push (k + 2) (drop name ds) d o.deeper (omega arith));
  }

  last_open : (k name : ℕ) → k ≡ d - 1 → 2 ≤ d → name ≡ length ds + 1 → IsOpen (ds ++ d ∷ []) k name
  last_open k name at two is =
      let long : length (ds ++ d ∷ []) ≤ name = omega (arith, length-append ds (d ∷ [])) in
      let one : d ≡ k + 1 = omega arith in
      record {
        within = omega (arith, length-append ds (d ∷ []));
        reached = rw (take_all name (ds ++ d ∷ []) long) (ends-append 1 ds (d ∷ []) ∙ one);
        deeper = rw (drop_all name (ds ++ d ∷ []) long) tt;
      }

  pushed : (path : List ℕ) → IsPath ds path → 2 ≤ d → d ≤ ends 1 ds + 1 → IsPath (ds ++ d ∷ []) (take (d - 1) path ++ (length ds + 1) ∷ [])
  pushed path p two most =
      let short : length (take (d - 1) path) ≡ d - 1 = let long = p.long in length-take-le (d - 1) path (omega arith) in
      record {
        long = let last = ends-append 1 ds (d ∷ []) in omega (arith, length-append (take (d - 1) path) ((length ds + 1) ∷ []));
        are_open = λ k name h. elim (kept_or_new (d - 1) path (length ds + 1) k name h) [
          | inl kept ↦ stays_open k name kept.0 (p.are_open k name kept.1)
          | inr new ↦ last_open k name (new.0 ∙ short) two (sym new.1)
        ];
      }

walked : (rest seen path : List ℕ) (next : ℕ) → IsPath seen path → next ≡ length seen + 1 → follows (ends 1 seen) rest ≡ true → IsPath (seen ++ rest) (path_from path next rest)
walked [] seen path next p at h = subst (λ l. IsPath l path) (sym (append-nil seen)) p
walked (d ∷ ds) seen path next p at h =
    let f = first_of (ends 1 seen) d ds h in
    let longer : List ℕ = seen ++ d ∷ [] in
    let other : List ℕ = take (d - 1) path ++ next ∷ [] in
    let q : IsPath longer other = subst (λ n. IsPath longer (take (d - 1) path ++ n ∷ [])) (sym at) (pushed seen d path p f.from f.to) in
    let later : follows (ends 1 longer) ds ≡ true = rw (ends-append 1 seen (d ∷ [])) f.later in
    subst (λ l. IsPath l (path_from other (next + 1) ds)) (append_assoc seen (d ∷ []) ds)
    (walked ds longer other (next + 1) q (omega (arith, length-append seen (d ∷ []))) later)

root_path : IsPath [] (0 ∷ [])
root_path = record { long = refl; are_open = root_open }
  where
    root_open : (k name : ℕ) → slice_get (0 ∷ []) k ≡ Some name → IsOpen [] k name
    root_open zero name h = let is : 0 ≡ name = cc in subst (λ n. IsOpen [] 0 n) is (record { within = omega arith; reached = refl; deeper = tt })
    root_open (suc k) name h = cc

pub outline_path : (ds : List ℕ) → follows 1 ds ≡ true → IsPath ds (path_from (0 ∷ []) 1 ds)
outline_path ds h = walked ds [] (0 ∷ []) 1 root_path refl h

-- one more row
pub path_pushed : (ds path : List ℕ) (next d : ℕ) → path_from path next (ds ++ d ∷ []) ≡ take (d - 1) (path_from path next ds) ++ (next + length ds) ∷ []
path_pushed [] path next d = let same : next ≡ next + 0 = omega arith in ap (λ n. take (d - 1) path ++ n ∷ []) same
path_pushed (e ∷ ds) path next d =
    let other : List ℕ = take (e - 1) path ++ next ∷ [] in
    let same : next + 1 + length ds ≡ next + length (e ∷ ds) = omega arith in
    path_pushed ds other (next + 1) d ∙ ap (λ n. take (d - 1) (path_from other (next + 1) ds) ++ n ∷ []) same

-- the names on the path are below the next one
pub path_below : (ds path : List ℕ) (next : ℕ) → ((k name : ℕ) → slice_get path k ≡ Some name → name < next) → (k name : ℕ) → slice_get (path_from path next ds) k ≡ Some name → name < next + length ds
path_below [] path next all k name h = let below = all k name h in omega arith
path_below (d ∷ ds) path next all k name h =
    let below = path_below ds (take (d - 1) path ++ next ∷ []) (next + 1)
    (λ j n g. elim (kept_or_new (d - 1) path next j n g) [
      | inl kept ↦ let b = all j n kept.1 in omega arith
      | inr new ↦ let e = new.1 in omega arith
    ])
    k name h in
    omega arith
