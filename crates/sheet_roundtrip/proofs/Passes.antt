-- What the check asks of rows, one after the other: laws for one row, for rows that follow others, and for each of a list.
use mathlib.Core.Path.{◌≡◌, refl, sym, subst, ◌∙◌}
use mathlib.Core.List.{List, [], ◌∷◌, ◌++◌, map, append_assoc}
use mathlib.Core.Bool.{Bool, true, false, ◌&&◌}
use mathlib.Core.Logic.{◌↔◌}
use Prim.Native.Nat.{ℕ, suc, ◌≤◌}
use native.Mathlib.Omega.{arith}
use lib.ListN.{length}
use lib.Dec.{leb, eqb}
use Rattle.ast.proofs.Basics.{and_r}
use Rattle.sheet_rows.specs.declared.row.Row.{Row}
use Rattle.sheet_check.specs.declared.grammar.Form.{Form}
use Rattle.sheet_check.specs.declared.grammar.Form.TheVariants.{Root, Library, Expanded, Documents, Protos}
use Rattle.sheet_check.specs.declared.grammar.State.{State}
use Rattle.std.specs.Prelude.{Option, Some, None}
use Rattle.ast.specs.Choice.{choose}
use Rattle.sheet_shape.specs.Shape.{shape_fits}
use Rattle.sheet_check.specs.Grammar.{takes_marks, stays_expanded, begins_in, ends_in, allowed, go_if, fits}
use Rattle.ast.specs.Lists.{flat}
use Rattle.ast.specs.Each.{Each}
use Rattle.sheet_roundtrip.proofs.Tests.{never}
use Rattle.sheet_roundtrip.proofs.Accepts.{bare, no_go, go_inj, Accepts}

-- ---- what is asked

-- a form whose sheets hold whole documents: all but protos
abbrev pub Whole : Form → Type 0
Whole Root = Unit {0}
Whole Library = Unit {0}
Whole Expanded = Unit {0}
Whole Documents = Unit {0}
Whole Protos = ⊥

-- a document begins in part 0, and a sheet ends in the top or before the first file: all but documents one after another and protos
pub record Single (form : Form) : Type 0 where
  pub begins : (p : ℕ) → begins_in form p ≡ eqb p 0
  pub ends : (p : ℕ) → ends_in form p ≡ leb 11 p
  pub whole : Whole form

-- a root sheet, a library and an expanded document are such
pub single_root : Single Root
single_root = record { begins = λ p. refl; ends = λ p. refl; whole = tt }

pub single_library : Single Library
single_library = record { begins = λ p. refl; ends = λ p. refl; whole = tt }

pub single_expanded : Single Expanded
single_expanded = record { begins = λ p. refl; ends = λ p. refl; whole = tt }

-- asked of expanded documents alone; nothing is told of protos here
abbrev pub Only : Form → Type 0 → Type 0
Only Root E = Unit {0}
Only Library E = Unit {0}
Only Expanded E = E
Only Documents E = E
Only Protos E = ⊥

-- what is asked of rows: to be in range, and to stay in an expanded document; given besides: what is present is not none
pub record Asks : Type 1 where
  pub given : Type 0
  pub range : Type 0
  pub kept : Type 0

-- nothing is asked
abbrev pub nothing : Asks
nothing = record { given = Unit {0}; range = Unit {0}; kept = Unit {0} }

-- of rows and of rows after them
abbrev pub both : Asks → Asks → Asks
both a b = record { given = a.given × b.given; range = a.range × b.range; kept = a.kept × b.kept }

-- of the rows of each of a list
abbrev pub each : {A : Type 0} → (A → Asks) → List A → Asks
each f l = record { given = Each (λ x. (f x).given) l; range = Each (λ x. (f x).range) l; kept = Each (λ x. (f x).kept) l }

-- what follows from what is asked of an expanded document alone
only_map : (form : Form) {A B : Type 0} → (A → B) → Only form A → Only form B
only_map Root f x = tt
only_map Library f x = tt
only_map Expanded f x = f x
only_map Documents f x = f x
only_map Protos f x = x

-- and two such together
only_both : (form : Form) (A B : Type 0) → Only form A → Only form B → Only form (A × B)
only_both Root A B x y = tt
only_both Library A B x y = tt
only_both Expanded A B x y = (x, y)
only_both Documents A B x y = (x, y)
only_both Protos A B x y = x

-- from a state to another through rows: exactly if they are as asked
pub record Through (form : Form) (s t : State) (a : Asks) (R : List Row) : Type 0 where
  pub into : (l : List Row) → a.range → Only form a.kept → Accepts form t l → Accepts form s (R ++ l)
  pub back : Whole form → (l : List Row) → a.given → Accepts form s (R ++ l) → a.range × Only form a.kept × Accepts form t l

-- no rows
pub stay : (form : Form) (s : State) → Through form s s nothing []
stay form s = record { into = λ l x e k. k; back = λ h l g k. (tt, only form h, k) }
  where
    only : (form : Form) → Whole form → Only form (Unit {0})
    only Root h = tt
    only Library h = tt
    only Expanded h = tt
    only Documents h = tt
    only Protos h = h

-- rows after rows
pub follow : {form : Form} {s t u : State} {a b : Asks} {Q R : List Row} → Through form s t a Q → Through form t u b R → Through form s u (both a b) (Q ++ R)
follow {form} {a} {b} {Q} {R} f g =
    record {
      into = λ l x e k. rw (append_assoc Q R l) (f.into (R ++ l) x.0 (only_map form {A = a.kept × b.kept} (λ z. z.0) e) (g.into l x.1 (only_map form {A = a.kept × b.kept} (λ z. z.1) e) k));
      back = λ h l o k. let y = f.back h (R ++ l) o.0 (rw (append_assoc Q R l) at k) in
          let z = g.back h l o.1 y.2 in ((y.0, z.0), only_both form a.kept b.kept y.1 z.1, z.2);
    }

-- the same, asked in other words
pub instead : {form : Form} {s t : State} {a b : Asks} {R : List Row} → (b.given → a.given) → (a.range ↔ b.range) → (a.kept ↔ b.kept) → Through form s t a R → Through form s t b R
instead {form} o x e f =
    record {
      into = λ l y z k. f.into l (x.1 y) (only_map form e.1 z) k;
      back = λ h l g k. let y = f.back h l (o g) k in (x.0 y.0, only_map form e.0 y.1, y.2);
    }

-- ---- one row

-- what lets a row through: its form, its shape and its place
thrice : (A B C : Bool) (t : State) (x : Option State) → x ≡ choose A (choose B (go_if C t) None) None → A ≡ true → (B && C) ≡ true → x ≡ Some t
thrice true true true t x h i j = h
thrice true true false t x h i j = let z : ◌≡◌ {A = ℕ} 0 1 = cc in absurd (omega arith)
thrice true false C t x h i j = let z : ◌≡◌ {A = ℕ} 0 1 = cc in absurd (omega arith)
thrice false B C t x h i j = let z : ◌≡◌ {A = ℕ} 0 1 = cc in absurd (omega arith)

-- where the row is let through, all three did
taken : (A B C : Bool) (t u : State) (x : Option State) → x ≡ choose A (choose B (go_if C t) None) None → x ≡ Some u → (A ≡ true) × ((B && C) ≡ true) × (t ≡ u)
taken true true true t u x h k = (refl, refl, go_inj (sym h ∙ k))
taken true true false t u x h k = no_go (sym h ∙ k)
taken true false C t u x h k = no_go (sym h ∙ k)
taken false B C t u x h k = no_go (sym h ∙ k)

-- the form lets a row in that stays in an expanded document
let_in : (form : Form) (s : State) (r : Row) {E : Type 0} → (E → stays_expanded s r ≡ true) → Only form E → allowed form s r ≡ true
let_in Root s r f x = refl
let_in Library s r f x = refl
let_in Expanded s r f x = f x
let_in Documents s r f x = f x
let_in Protos s r f x = absurd x

-- and only such a row
let_on : (form : Form) → Whole form → (s : State) (r : Row) {E : Type 0} → (stays_expanded s r ≡ true → E) → allowed form s r ≡ true → Only form E
let_on Root h s r f x = tt
let_on Library h s r f x = tt
let_on Expanded h s r f x = f x
let_on Documents h s r f x = f x
let_on Protos h s r f x = h

-- a row stays in an expanded document exactly if it is as asked
abbrev pub Keeps : State → Row → Asks → Type 0
Keeps s r a = (a.kept → stays_expanded s r ≡ true) × (a.given → stays_expanded s r ≡ true → a.kept)

-- a row that goes on to t by its shape and a place C: asked are those two, and to stay in an expanded document
abbrev pub GoesOn : Form → State → State → Row → Bool → Type 0
GoesOn form s t r C = fits form s r ≡ choose (allowed form s r) (choose (shape_fits (takes_marks form) r) (go_if C t) None) None

-- so it is let through exactly if it is as asked
pub through : (form : Form) (s t : State) (r : Row) (C : Bool) (a : Asks) → GoesOn form s t r C → (a.range → (shape_fits (takes_marks form) r && C) ≡ true) → (a.given → (shape_fits (takes_marks form) r && C) ≡ true → a.range) → Keeps s r a → Through form s t a (r ∷ [])
through form s t r C a h f g e =
    record {
      into = λ l x y k. (t, thrice (allowed form s r) (shape_fits (takes_marks form) r) C t (fits form s r) h (let_in form s r e.0 y) (f x), k);
      back = λ i l o k. let w = taken (allowed form s r) (shape_fits (takes_marks form) r) C t k.0 (fits form s r) h k.1 in
          (g o w.1, let_on form i s r (e.1 o) w.0, subst (λ (u : State). Accepts form u l) (sym w.2) k.2);
    }

-- a row that may not stand at its place, where it is asked the impossible
pub refused : (form : Form) (s t u : State) (r : Row) (R : List Row) (C : Bool) (a : Asks) → GoesOn form s u r C → C ≡ false → (a.range → ⊥) → Through form s t a (r ∷ R)
refused form s t u r R C a h c f =
    record {
      into = λ l x y k. absurd (f x);
      back = λ i l o k. let w = taken (allowed form s r) (shape_fits (takes_marks form) r) C u k.0 (fits form s r) h k.1 in never (sym c ∙ and_r (shape_fits (takes_marks form) r) C w.1);
    }

-- ---- rows that are owed

-- as many rows as a count says, each of which lessens it
pub counted : {A : Type 0} (form : Form) (S : ℕ → State) (print : A → Row) (a : A → Asks) → ((n : ℕ) (x : A) → Through form (S (suc n)) (S n) (a x) (print x ∷ [])) → (l : List A) → Through form (S (length l)) (S 0) (each a l) (map print l)
counted form S print a f [] = stay form (S 0)
counted form S print a f (x ∷ l) = follow (f (length l) x) (counted form S print a f l)

-- ---- rows in a part

-- parts from lo to hi, where the last row's kind is at most top; nothing is owed
pub record Span : Type 0 where
  pub lo : ℕ
  pub hi : ℕ
  pub top : ℕ

-- a span by its numbers
abbrev pub span : ℕ → ℕ → ℕ → Span
span a b c = record { lo = a; hi = b; top = c }

-- a part and a last kind within a span
pub record Within (S : Span) (p la : ℕ) : Type 0 where
  pub from : S.lo ≤ p
  pub to : p ≤ S.hi
  pub last : la ≤ S.top

-- rows that lead from any state of a span to one of another
abbrev pub Passes : Form → Span → Span → Asks → List Row → Type 0
Passes form S T a R = (p la : ℕ) → Within S p la → (q lb : ℕ) × Within T q lb × Through form (bare p la) (bare q lb) a R

-- every state of one span is in the other
abbrev pub Sub : Span → Span → Type 0
Sub S T = (p la : ℕ) → Within S p la → Within T p la

-- rows after rows
pub then : {form : Form} {S T I U : Span} {a b : Asks} {Q R : List Row} → Sub T I → Passes form S T a Q → Passes form I U b R → Passes form S U (both a b) (Q ++ R)
then i f g p la w =
    let x = f p la w in
    let y = g x.0 x.1 (i x.0 x.1 x.2) in
    (y.0, y.1, y.2, follow x.3 y.3)

-- the same, asked in other words, between other spans
pub asking : {form : Form} {S T I J : Span} {a b : Asks} {R : List Row} → Sub I S → Sub T J → (b.given → a.given) → (a.range ↔ b.range) → (a.kept ↔ b.kept) → Passes form S T a R → Passes form I J b R
asking i j o x e f p la w = let y = f p la (i p la w) in (y.0, y.1, j y.0 y.1 y.2, instead o x e y.3)

-- the rows of each of a list
pub listed : {A : Type 0} {form : Form} {S T : Span} (print : A → List Row) (a : A → Asks) → Sub T S → ((x : A) → Passes form S T (a x) (print x)) → (l : List A) → Passes form S S (each a l) (flat print l)
listed {form} print a i f [] = λ p la w. (p, la, w, stay form (bare p la))
listed {form} print a i f (x ∷ l) = then i (f x) (listed print a i f l)

-- a row of each of a list
pub mapped : {A : Type 0} {form : Form} {S T : Span} (print : A → Row) (a : A → Asks) → Sub T S → ((x : A) → Passes form S T (a x) (print x ∷ [])) → (l : List A) → Passes form S S (each a l) (map print l)
mapped {form} print a i f [] = λ p la w. (p, la, w, stay form (bare p la))
mapped {form} print a i f (x ∷ l) = then i (f x) (mapped print a i f l)

-- in one part
pub within : {form : Form} {a : Asks} {R : List Row} (q k m : ℕ) → ((la : ℕ) → la ≤ k → (lb : ℕ) × (lb ≤ m) × Through form (bare q la) (bare q lb) a R) → Passes form (span q q k) (span q q m) a R
within {form} {a} {R} q k m f p la w =
    let e : q ≡ p = omega arith in
    let y = f la w.last in
    (p, y.0, record { from = w.from; to = w.to; last = y.1 }, subst (λ (n : ℕ). Through form (bare n la) (bare n y.0) a R) e y.2)
