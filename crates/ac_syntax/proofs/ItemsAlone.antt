-- The items of a script determine it.
use Rattle.std.proofs.Common.{◌≡◌, ℕ, List, [], ◌∷◌, ◌++◌, Option, Some, None, map, refl, sym, ap, subst, ◌∙◌, append_assoc}
use Rattle.std.proofs.lemmas.List.{append-nil}
use Rattle.ac_syntax.specs.Code.{Head, loop_at, view_at, stable_at, declare_at, tasks_at, task_at, Code, stop, one, block, handled, HandlerCode, no_handler, handler}
use Rattle.ac_syntax.specs.declared.closing.Closing.TheVariants.{EndTried}
use Rattle.ac_syntax.specs.declared.decl.Decl.{Decl}
use Rattle.ac_syntax.specs.declared.script.Script.{Script}
use Rattle.ac_syntax.specs.Items.{Item, bare, ending, head_line, declares, commands, opens, begins, closes, propagates, tries, catches, declared, opening, closing, handlers_end, items, handler_items, pragma_items, script_items}

-- nothing more, the end of a block or of what is tried, or a handler
abbrev EndsHere : List Item → Type 0
EndsHere [] = Unit {0}
EndsHere (declares _ ∷ _) = ⊥
EndsHere (commands _ ∷ _) = ⊥
EndsHere (opens _ ∷ _) = ⊥
EndsHere (begins ∷ _) = ⊥
EndsHere (closes _ ∷ _) = Unit {0}
EndsHere (propagates _ ∷ _) = ⊥
EndsHere (tries _ ∷ _) = ⊥
EndsHere (catches _ _ ∷ _) = Unit {0}

abbrev IsCommand : List Item → Type 0
IsCommand [] = ⊥
IsCommand (declares _ ∷ _) = ⊥
IsCommand (commands _ ∷ _) = Unit {0}
IsCommand (opens _ ∷ _) = ⊥
IsCommand (begins ∷ _) = ⊥
IsCommand (closes _ ∷ _) = ⊥
IsCommand (propagates _ ∷ _) = ⊥
IsCommand (tries _ ∷ _) = ⊥
IsCommand (catches _ _ ∷ _) = ⊥

abbrev IsDeclaration : List Item → Type 0
IsDeclaration [] = ⊥
IsDeclaration (declares _ ∷ _) = Unit {0}
IsDeclaration (commands _ ∷ _) = ⊥
IsDeclaration (opens _ ∷ _) = ⊥
IsDeclaration (begins ∷ _) = ⊥
IsDeclaration (closes _ ∷ _) = ⊥
IsDeclaration (propagates _ ∷ _) = ⊥
IsDeclaration (tries _ ∷ _) = ⊥
IsDeclaration (catches _ _ ∷ _) = ⊥

-- a block's items, and what stands behind them
pub around : (head : Head) (body rest : Code) (x : List Item)
    → items (block head body rest) ++ x ≡ opening head ++ (items body ++ (closing head ++ (items rest ++ x)))
around head body rest x =
    append_assoc (opening head) (items body ++ (closing head ++ items rest)) x
    ∙ ap (λ tail. opening head ++ tail)
    (append_assoc (items body) (closing head ++ items rest) x ∙ ap (λ tail. items body ++ tail) (append_assoc (closing head) (items rest) x))

-- declarations up to the word behind them
decls_alone : (decls others : List Decl) (xs ys : List Item)
    → (map declares decls ++ begins ∷ []) ++ xs ≡ (map declares others ++ begins ∷ []) ++ ys → (decls ≡ others) × (xs ≡ ys)
decls_alone [] [] xs ys e = (refl, cc e)
decls_alone [] (d ∷ others) xs ys e = absurd (subst IsDeclaration (sym e) tt)
decls_alone (d ∷ decls) [] xs ys e = absurd (subst IsDeclaration e tt)
decls_alone (d ∷ decls) (o ∷ others) xs ys e =
    let same : d ≡ o = cc e in
    let tails : (map declares decls ++ begins ∷ []) ++ xs ≡ (map declares others ++ begins ∷ []) ++ ys = cc e in
    let found : (decls ≡ others) × (xs ≡ ys) = decls_alone decls others xs ys tails in
    (λ i. same i ∷ found.0 i, found.1)

abbrev DeclaresHere : Head → Type 0
DeclaresHere (loop_at _ _ _ _ _) = ⊥
DeclaresHere (view_at _ _ _ _ _) = ⊥
DeclaresHere (stable_at _ _) = ⊥
DeclaresHere (declare_at _ _) = Unit {0}
DeclaresHere (tasks_at _) = ⊥
DeclaresHere (task_at _ _ _) = Unit {0}

abbrev IsTask : Head → Type 0
IsTask (loop_at _ _ _ _ _) = ⊥
IsTask (view_at _ _ _ _ _) = ⊥
IsTask (stable_at _ _) = ⊥
IsTask (declare_at _ _) = ⊥
IsTask (tasks_at _) = ⊥
IsTask (task_at _ _ _) = Unit {0}

abbrev task_name : Head → List ℕ
task_name (loop_at _ _ _ _ _) = []
task_name (view_at _ _ _ _ _) = []
task_name (stable_at _ _) = []
task_name (declare_at _ _) = []
task_name (tasks_at _) = []
task_name (task_at _ name _) = name

-- without its declarations a head declares where it did
bared : (h : Head) → DeclaresHere h → DeclaresHere (bare h)
bared (loop_at _ _ _ _ _) d = d
bared (view_at _ _ _ _ _) d = d
bared (stable_at _ _) d = d
bared (declare_at _ _) d = d
bared (tasks_at _) d = d
bared (task_at _ _ _) d = d

declared_so : (h : Head) → DeclaresHere (bare h) → DeclaresHere h
declared_so (loop_at _ _ _ _ _) d = d
declared_so (view_at _ _ _ _ _) d = d
declared_so (stable_at _ _) d = d
declared_so (declare_at _ _) d = d
declared_so (tasks_at _) d = d
declared_so (task_at _ _ _) d = d

-- a head that declares nothing is all of its items
plain_head : (h : Head) → (DeclaresHere h → ⊥) → (bare h ≡ h) × (declared h ≡ [])
plain_head (loop_at _ _ _ _ _) n = (refl, refl)
plain_head (view_at _ _ _ _ _) n = (refl, refl)
plain_head (stable_at _ _) n = (refl, refl)
plain_head (declare_at _ _) n = absurd (n tt)
plain_head (tasks_at _) n = (refl, refl)
plain_head (task_at _ _ _) n = absurd (n tt)

plain_alone : (head other : Head) (xs ys : List Item) → (DeclaresHere head → ⊥) → bare head ≡ bare other → declared head ++ xs ≡ declared other ++ ys → (head ≡ other) × (xs ≡ ys)
plain_alone head other xs ys n p q =
    let first = plain_head head n in
    let second = plain_head other (λ d. n (declared_so head (subst DeclaresHere (sym p) (bared other d)))) in
    (sym first.0 ∙ p ∙ second.0, ap (λ is. is ++ xs) (sym first.1) ∙ q ∙ ap (λ is. is ++ ys) second.1)

-- only a head that declares has the words of one that does
only_declares : (head other : Head) → DeclaresHere head → bare head ≡ bare other → DeclaresHere other
only_declares head other d p = declared_so other (subst DeclaresHere p (bared head d))

declare_alone : (line : ℕ) (decls : List Decl) (other : Head) (xs ys : List Item)
    → declare_at line [] ≡ bare other → declared (declare_at line decls) ++ xs ≡ declared other ++ ys → (declare_at line decls ≡ other) × (xs ≡ ys)
declare_alone line decls (loop_at a b c d e) xs ys p q = absurd (only_declares (declare_at line decls) (loop_at a b c d e) tt p)
declare_alone line decls (view_at a b c d e) xs ys p q = absurd (only_declares (declare_at line decls) (view_at a b c d e) tt p)
declare_alone line decls (stable_at a b) xs ys p q = absurd (only_declares (declare_at line decls) (stable_at a b) tt p)
declare_alone line decls (tasks_at a) xs ys p q = absurd (only_declares (declare_at line decls) (tasks_at a) tt p)
declare_alone line decls (task_at _ _ _) xs ys p q = absurd (subst IsTask (sym p) tt)
declare_alone line decls (declare_at place others) xs ys p q =
    let same : line ≡ place = ap head_line p in
    let found : (decls ≡ others) × (xs ≡ ys) = decls_alone decls others xs ys q in
    (λ i. declare_at (same i) (found.0 i), found.1)

task_alone : (line : ℕ) (name : List ℕ) (locals : List Decl) (other : Head) (xs ys : List Item)
    → task_at line name [] ≡ bare other → declared (task_at line name locals) ++ xs ≡ declared other ++ ys → (task_at line name locals ≡ other) × (xs ≡ ys)
task_alone line name locals (loop_at a b c d e) xs ys p q = absurd (only_declares (task_at line name locals) (loop_at a b c d e) tt p)
task_alone line name locals (view_at a b c d e) xs ys p q = absurd (only_declares (task_at line name locals) (view_at a b c d e) tt p)
task_alone line name locals (stable_at a b) xs ys p q = absurd (only_declares (task_at line name locals) (stable_at a b) tt p)
task_alone line name locals (tasks_at a) xs ys p q = absurd (only_declares (task_at line name locals) (tasks_at a) tt p)
task_alone line name locals (declare_at _ _) xs ys p q = absurd (subst IsTask p tt)
task_alone line name locals (task_at place other others) xs ys p q =
    let same : line ≡ place = ap head_line p in
    let named : name ≡ other = ap task_name p in
    let found : (locals ≡ others) × (xs ≡ ys) = decls_alone locals others xs ys q in
    (λ i. task_at (same i) (named i) (found.0 i), found.1)

head_alone : (head other : Head) (xs ys : List Item) → bare head ≡ bare other → declared head ++ xs ≡ declared other ++ ys → (head ≡ other) × (xs ≡ ys)
head_alone (loop_at a b c d e) other xs ys p q = plain_alone (loop_at a b c d e) other xs ys (λ n. n) p q
head_alone (view_at a b c d e) other xs ys p q = plain_alone (view_at a b c d e) other xs ys (λ n. n) p q
head_alone (stable_at a b) other xs ys p q = plain_alone (stable_at a b) other xs ys (λ n. n) p q
head_alone (tasks_at a) other xs ys p q = plain_alone (tasks_at a) other xs ys (λ n. n) p q
head_alone (declare_at line decls) other xs ys p q = declare_alone line decls other xs ys p q
head_alone (task_at line name locals) other xs ys p q = task_alone line name locals other xs ys p q

-- a block with handlers
abbrev IsTried : List Item → Type 0
IsTried [] = ⊥
IsTried (declares _ ∷ _) = ⊥
IsTried (commands _ ∷ _) = ⊥
IsTried (opens _ ∷ _) = ⊥
IsTried (begins ∷ _) = ⊥
IsTried (closes _ ∷ _) = ⊥
IsTried (propagates _ ∷ _) = ⊥
IsTried (tries _ ∷ _) = Unit {0}
IsTried (catches _ _ ∷ _) = ⊥

-- behind handlers stands the end of their block
abbrev EndsHandlers : List Item → Type 0
EndsHandlers [] = ⊥
EndsHandlers (declares _ ∷ _) = ⊥
EndsHandlers (commands _ ∷ _) = ⊥
EndsHandlers (opens _ ∷ _) = ⊥
EndsHandlers (begins ∷ _) = ⊥
EndsHandlers (closes _ ∷ _) = Unit {0}
EndsHandlers (propagates _ ∷ _) = ⊥
EndsHandlers (tries _ ∷ _) = ⊥
EndsHandlers (catches _ _ ∷ _) = ⊥

ends_here : (x : List Item) → EndsHandlers x → EndsHere x
ends_here [] h = absurd h
ends_here (declares _ ∷ _) h = absurd h
ends_here (commands _ ∷ _) h = absurd h
ends_here (opens _ ∷ _) h = absurd h
ends_here (begins ∷ _) h = absurd h
ends_here (closes _ ∷ _) h = tt
ends_here (propagates _ ∷ _) h = absurd h
ends_here (tries _ ∷ _) h = absurd h
ends_here (catches _ _ ∷ _) h = absurd h

handlers_here : (hs : HandlerCode) (x : List Item) → EndsHandlers x → EndsHere (handler_items hs ++ x)
handlers_here no_handler x h = ends_here x h
handlers_here (handler _ _ _ _) x h = tt

-- the items of a block with handlers, and what stands behind them
pub tried_around : (line : ℕ) (body : Code) (hs : HandlerCode) (rest : Code) (x : List Item) → items (handled line body hs rest) ++ x
    ≡ tries line ∷ (items body ++ (closes EndTried ∷ (handler_items hs ++ (closes (handlers_end hs) ∷ (items rest ++ x)))))
tried_around line body hs rest x =
    ap (λ l. tries line ∷ l)
    (append_assoc (items body) (closes EndTried ∷ (handler_items hs ++ (closes (handlers_end hs) ∷ items rest))) x
    ∙ ap (λ l. items body ++ (closes EndTried ∷ l)) (append_assoc (handler_items hs) (closes (handlers_end hs) ∷ items rest) x))

mutual
  pub code_alone : (a b : Code) (x y : List Item) → EndsHere x → EndsHere y → items a ++ x ≡ items b ++ y → (a ≡ b) × (x ≡ y)
  code_alone stop stop x y ex ey e = (refl, e)
  code_alone stop (one _ _) x y ex ey e = absurd (subst EndsHere e ex)
  code_alone stop (block _ _ _) x y ex ey e = absurd (subst EndsHere e ex)
  code_alone stop (handled _ _ _ _) x y ex ey e = absurd (subst EndsHere e ex)
  code_alone (one _ _) stop x y ex ey e = absurd (subst EndsHere (sym e) ey)
  code_alone (block _ _ _) stop x y ex ey e = absurd (subst EndsHere (sym e) ey)
  code_alone (handled _ _ _ _) stop x y ex ey e = absurd (subst EndsHere (sym e) ey)
  code_alone (one _ _) (block _ _ _) x y ex ey e = absurd (subst IsCommand e tt)
  code_alone (block _ _ _) (one _ _) x y ex ey e = absurd (subst IsCommand (sym e) tt)
  code_alone (one _ _) (handled _ _ _ _) x y ex ey e = absurd (subst IsCommand e tt)
  code_alone (handled _ _ _ _) (one _ _) x y ex ey e = absurd (subst IsCommand (sym e) tt)
  code_alone (block _ _ _) (handled _ _ _ _) x y ex ey e = absurd (subst IsTried (sym e) tt)
  code_alone (handled _ _ _ _) (block _ _ _) x y ex ey e = absurd (subst IsTried e tt)
  code_alone (one s rest) (one t more) x y ex ey e =
      let same : s ≡ t = cc e in
      let tails : items rest ++ x ≡ items more ++ y = cc e in
      let found : (rest ≡ more) × (x ≡ y) = code_alone rest more x y ex ey tails in
      (λ i. one (same i) (found.0 i), found.1)
  code_alone (block head body rest) (block other inner more) x y ex ey e =
      let both : opens (bare head) ∷ (declared head ++ (items body ++ closes (ending head) ∷ (items rest ++ x)))
      ≡ opens (bare other) ∷ (declared other ++ (items inner ++ closes (ending other) ∷ (items more ++ y)))
      = sym (around head body rest x) ∙ e ∙ around other inner more y in
      let bared : bare head ≡ bare other = cc both in
      let tails : declared head ++ (items body ++ closes (ending head) ∷ (items rest ++ x)) ≡ declared other ++ (items inner ++ closes (ending other) ∷ (items more ++ y)) = cc both in
      let heads : (head ≡ other) × (items body ++ closes (ending head) ∷ (items rest ++ x) ≡ items inner ++ closes (ending other) ∷ (items more ++ y))
      = head_alone head other _ _ bared tails in
      let inside : (body ≡ inner) × (closes (ending head) ∷ (items rest ++ x) ≡ closes (ending other) ∷ (items more ++ y)) = code_alone body inner _ _ tt tt heads.1 in
      let after : items rest ++ x ≡ items more ++ y = cc inside.1 in
      let found : (rest ≡ more) × (x ≡ y) = code_alone rest more x y ex ey after in
      (λ i. block (heads.0 i) (inside.0 i) (found.0 i), found.1)
  code_alone (handled line body hs rest) (handled place inner ks more) x y ex ey e =
      let both : tries line ∷ (items body ++ (closes EndTried ∷ (handler_items hs ++ (closes (handlers_end hs) ∷ (items rest ++ x)))))
      ≡ tries place ∷ (items inner ++ (closes EndTried ∷ (handler_items ks ++ (closes (handlers_end ks) ∷ (items more ++ y)))))
      = sym (tried_around line body hs rest x) ∙ e ∙ tried_around place inner ks more y in
      let same : line ≡ place = cc both in
      let tails : items body ++ (closes EndTried ∷ (handler_items hs ++ (closes (handlers_end hs) ∷ (items rest ++ x))))
      ≡ items inner ++ (closes EndTried ∷ (handler_items ks ++ (closes (handlers_end ks) ∷ (items more ++ y)))) = cc both in
      let bodies : (body ≡ inner) × (closes EndTried ∷ (handler_items hs ++ (closes (handlers_end hs) ∷ (items rest ++ x))) ≡ closes EndTried ∷ (handler_items ks ++ (closes (handlers_end ks) ∷ (items more ++ y))))
      = code_alone body inner _ _ tt tt tails in
      let behind : handler_items hs ++ (closes (handlers_end hs) ∷ (items rest ++ x)) ≡ handler_items ks ++ (closes (handlers_end ks) ∷ (items more ++ y)) = cc bodies.1 in
      let handlers : (hs ≡ ks) × (closes (handlers_end hs) ∷ (items rest ++ x) ≡ closes (handlers_end ks) ∷ (items more ++ y)) = handlers_alone hs ks _ _ tt tt behind in
      let after : items rest ++ x ≡ items more ++ y = cc handlers.1 in
      let found : (rest ≡ more) × (x ≡ y) = code_alone rest more x y ex ey after in
      (λ i. handled (same i) (bodies.0 i) (handlers.0 i) (found.0 i), found.1)

  handlers_alone : (hs ks : HandlerCode) (x y : List Item) → EndsHandlers x → EndsHandlers y → handler_items hs ++ x ≡ handler_items ks ++ y → (hs ≡ ks) × (x ≡ y)
  handlers_alone no_handler no_handler x y ex ey e = (refl, e)
  handlers_alone no_handler (handler _ _ _ _) x y ex ey e = absurd (subst EndsHandlers e ex)
  handlers_alone (handler _ _ _ _) no_handler x y ex ey e = absurd (subst EndsHandlers (sym e) ey)
  handlers_alone (handler line raised body more) (handler place caught inner rest) x y ex ey e =
      let same : line ≡ place = cc e in
      let own : raised ≡ caught = cc e in
      let tails : (items body ++ handler_items more) ++ x ≡ (items inner ++ handler_items rest) ++ y = cc e in
      let parts : (body ≡ inner) × (handler_items more ++ x ≡ handler_items rest ++ y) =
      code_alone body inner _ _ (handlers_here more x ex) (handlers_here rest y ey)
      (sym (append_assoc (items body) (handler_items more) x) ∙ tails ∙ append_assoc (items inner) (handler_items rest) y) in
      let found : (more ≡ rest) × (x ≡ y) = handlers_alone more rest x y ex ey parts.1 in
      (λ i. handler (same i) (own i) (parts.0 i) (found.0 i), found.1)

abbrev IsPragma : List Item → Type 0
IsPragma [] = ⊥
IsPragma (declares _ ∷ _) = ⊥
IsPragma (commands _ ∷ _) = ⊥
IsPragma (opens _ ∷ _) = ⊥
IsPragma (begins ∷ _) = ⊥
IsPragma (closes _ ∷ _) = ⊥
IsPragma (propagates _ ∷ _) = Unit {0}
IsPragma (tries _ ∷ _) = ⊥
IsPragma (catches _ _ ∷ _) = ⊥

not_declaration : (code : Code) → IsDeclaration (items code) → ⊥
not_declaration stop h = h
not_declaration (one _ _) h = h
not_declaration (block _ _ _) h = h
not_declaration (handled _ _ _ _) h = h

not_pragma : (decls : List Decl) (code : Code) → IsPragma (map declares decls ++ items code) → ⊥
not_pragma [] stop h = h
not_pragma [] (one _ _) h = h
not_pragma [] (block _ _ _) h = h
not_pragma [] (handled _ _ _ _) h = h
not_pragma (_ ∷ _) code h = h

no_more : (a b : Code) → items a ≡ items b → a ≡ b
no_more a b e = (code_alone a b [] [] tt tt (append-nil (items a) ∙ e ∙ sym (append-nil (items b)))).0

behind_pragma : (decls others : List Decl) (a b : Code) → map declares decls ++ items a ≡ map declares others ++ items b → (decls ≡ others) × (a ≡ b)
behind_pragma [] [] a b e = (refl, no_more a b e)
behind_pragma [] (d ∷ others) a b e = absurd (not_declaration a (subst IsDeclaration (sym e) tt))
behind_pragma (d ∷ decls) [] a b e = absurd (not_declaration b (subst IsDeclaration e tt))
behind_pragma (d ∷ decls) (o ∷ others) a b e =
    let same : d ≡ o = cc e in
    let tails : map declares decls ++ items a ≡ map declares others ++ items b = cc e in
    let found : (decls ≡ others) × (a ≡ b) = behind_pragma decls others a b tails in
    (λ i. same i ∷ found.0 i, found.1)

-- two scripts are the same
abbrev AreAlike : (own other : Option ℕ) → (decls others : List Decl) → (a b : Code) → Type 0
AreAlike own other decls others a b = (own ≡ other) × (decls ≡ others) × (a ≡ b)

script_parts : (own other : Option ℕ) (decls others : List Decl) (a b : Code)
    → pragma_items own ++ (map declares decls ++ items a) ≡ pragma_items other ++ (map declares others ++ items b) → AreAlike own other decls others a b
script_parts None None decls others a b e = let found = behind_pragma decls others a b e in (refl, found.0, found.1)
script_parts None (Some place) decls others a b e = absurd (not_pragma decls a (subst IsPragma (sym e) tt))
script_parts (Some line) None decls others a b e = absurd (not_pragma others b (subst IsPragma e tt))
script_parts (Some line) (Some place) decls others a b e =
    let same : line ≡ place = cc e in
    let tails : map declares decls ++ items a ≡ map declares others ++ items b = cc e in
    let found = behind_pragma decls others a b tails in
    (ap Some same, found.0, found.1)

pub script_alone : (a b : Script) → script_items a ≡ script_items b → a ≡ b
script_alone a b e =
    let found = script_parts a.pragma b.pragma a.decls b.decls a.stmts b.stmts e in
    λ i. record { pragma = found.0 i; decls = found.1 i; stmts = found.2 i }
