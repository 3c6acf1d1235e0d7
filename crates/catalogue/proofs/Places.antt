-- What holds of each place of a list holds after one is set.
use Rattle.std.proofs.Common.{◌≡◌, ℕ, zero, suc, ◌<◌, Bool, true, false, cond, ◌&&◌, eqb, None, Option, Some, List, length, get_or, set, replicate, sym, refl, ap, ◌∙◌, subst, ⊎_elim, get_or-set_other, get_or-set_same}
use Rattle.std.proofs.lemmas.Bool.{cases_eq, cond-false, cond-true, eq-eqb, eqb-false, eqb-true, ne_eqb}
use Rattle.plans.specs.Questions.{Question}
use Rattle.plans.specs.declared.predicates.Test.{Test}
use Rattle.plans.specs.declared.predicates.Tie.{Tie}
use Rattle.catalogue.specs.declared.catalogues.Table.{Table}
use Rattle.catalogue.specs.Changes.{with_test, with_tie}
use Rattle.catalogue.specs.Tables.{no_table, tie_at}

pub each_set : {A : Type 0} (P : A → Type 0) (xs : List A) (i : ℕ) (v d : A) → i < length xs → P v → ((k : ℕ) → P (get_or xs k d)) → (k : ℕ) → P (get_or (set xs i v) k d)
each_set P xs i v d l p h k =
    ⊎_elim
    (λ e. subst P (sym (ap (λ (n : ℕ). get_or (set xs i v) n d) e ∙ get_or-set_same xs i v d l)) p)
    (λ ne. subst P (sym (get_or-set_other xs i k v d ne)) (h k))
    (cases_eq k i)

-- Every place of a list of one value reads the same, and so does what stands past its end where that reads the same.
pub each_same : {A B : Type 0} (f : A → B) (v d : A) → f v ≡ f d → (n k : ℕ) → f (get_or (replicate n v) k d) ≡ f d
each_same f v d e zero k = refl
each_same f v d e (suc n) zero = e
each_same f v d e (suc n) (suc k) = each_same f v d e n k

-- Questions that agree at every place are the same.
pub same_question : (Q W : Question) → Q.count ≡ W.count → ((i : ℕ) → Q.rows i ≡ W.rows i) → ((i j : ℕ) → Q.tie i j ≡ W.tie i j) → ((i : ℕ) → Q.test i ≡ W.test i) → Q ≡ W
same_question Q W c r t s = λ x. record { count = c x; rows = λ i. r i x; tie = λ i j. t i j x; test = λ i. s i x }

-- ---- a table set

abbrev question : (count : ℕ) (tables : List Table) → Question
question n tables = record { count = n; rows = λ i. (get_or tables i no_table).rows; tie = tie_at tables; test = λ i. (get_or tables i no_table).test }

module _ (tables : List Table) (a : ℕ) (in_room : a < length tables) where
  -- what f reads of a table stays where it is the same of the table that is set
  pub kept : {B : Type 0} (f : Table → B) (t : Table) → f t ≡ f (get_or tables a no_table) → (i : ℕ) → f (get_or (set tables a t) i no_table) ≡ f (get_or tables i no_table)
  kept f t e i = ⊎_elim
      (λ same. ap (λ (k : ℕ). f (get_or (set tables a t) k no_table)) same ∙ ap f (get_or-set_same tables a t no_table in_room) ∙ e ∙ ap (λ (k : ℕ). f (get_or tables k no_table)) (sym same))
      (λ ne. ap f (get_or-set_other tables a i t no_table ne))
      (cases_eq i a)

  -- and else it is that of the table that is set
  pub changed : {B : Type 0} (f : Table → B) (t : Table) (i : ℕ) → f (get_or (set tables a t) i no_table) ≡ cond (eqb i a) (f t) (f (get_or tables i no_table))
  changed f t i = ⊎_elim
      (λ same. ap (λ (k : ℕ). f (get_or (set tables a t) k no_table)) same ∙ ap f (get_or-set_same tables a t no_table in_room) ∙ sym (cond-true (eqb i a) _ _ (eq-eqb i a same)))
      (λ ne. ap f (get_or-set_other tables a i t no_table ne) ∙ sym (cond-false (eqb i a) _ _ (ne_eqb i a ne)))
      (cases_eq i a)

  pub question_tested : (n : ℕ) (t : Table) (test : Test) → t.rows ≡ (get_or tables a no_table).rows → t.ties ≡ (get_or tables a no_table).ties → t.test ≡ Some test
      → question n (set tables a t) ≡ with_test (question n tables) a test
  question_tested n t test rows ties is =
      same_question _ _ refl (kept (λ (x : Table). x.rows) t rows) (λ i j. kept (λ (x : Table). get_or x.ties j None) t (ap (λ (l : List (Option Tie)). get_or l j None) ties) i)
      (λ i. changed (λ (x : Table). x.test) t i ∙ ap (λ (o : Option Test). cond (eqb i a) o (get_or tables i no_table).test) is)

  -- a tie set
  pub tie_changed : (b : ℕ) (t : Table) (v : Option Tie) → b < length (get_or tables a no_table).ties → t.ties ≡ set (get_or tables a no_table).ties b v
      → (i j : ℕ) → tie_at (set tables a t) i j ≡ cond (eqb i a && eqb j b) v (tie_at tables i j)
  tie_changed b t v l is i j =
      changed (λ (x : Table). get_or x.ties j None) t i
      ∙ go (eqb i a) (eqb j b) (λ e. ap (λ (k : ℕ). tie_at tables k j) (sym (eqb-true i a e)))
      (λ e. ap (λ (l : List (Option Tie)). get_or l j None) is ∙ ap (λ (k : ℕ). get_or (set (get_or tables a no_table).ties b v) k None) (eqb-true j b e) ∙ get_or-set_same (get_or tables a no_table).ties b v None l)
      (λ e. ap (λ (l : List (Option Tie)). get_or l j None) is ∙ get_or-set_other (get_or tables a no_table).ties b j v None (eqb-false j b e))
    where
      go : (x y : Bool) → (x ≡ true → tie_at tables a j ≡ tie_at tables i j) → (y ≡ true → get_or t.ties j None ≡ v) → (y ≡ false → get_or t.ties j None ≡ tie_at tables a j)
          → cond x (get_or t.ties j None) (tie_at tables i j) ≡ cond (x && y) v (tie_at tables i j)
      go true true f g h = g refl
      go true false f g h = h refl ∙ f refl
      go false y f g h = refl

  pub question_tied : (n b : ℕ) (t : Table) (v : Tie) → b < length (get_or tables a no_table).ties → t.rows ≡ (get_or tables a no_table).rows → t.test ≡ (get_or tables a no_table).test
      → t.ties ≡ set (get_or tables a no_table).ties b (Some v) → question n (set tables a t) ≡ with_tie (question n tables) a b v
  question_tied n b t v l rows test is =
      same_question _ _ refl (kept (λ (x : Table). x.rows) t rows) (tie_changed b t (Some v) l is) (kept (λ (x : Table). x.test) t test)
