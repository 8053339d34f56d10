-- Words on lists that the definitions above use.
use Rattle.std.specs.Prelude.{◌≡◌, Bool, cond, List, [], ◌∷◌, ◌++◌, map, ℕ, zero, suc}
use Rattle.std.specs.List.{list_all}

-- every element has the property (a data type, so that the property can be left for antt to find)
pub data All {A : Type 0} (P : A → Type 0) : List A → Type 0 where
  nil : All P []
  cons : {x : A} {l : List A} → P x → All P l → All P (x ∷ l)

-- x stands in the list
pub data In {A : Type 0} (x : A) : List A → Type 0 where
  here : {y : A} {l : List A} → x ≡ y → In x (y ∷ l)
  there : {y : A} {l : List A} → In x l → In x (y ∷ l)

-- every element passes the test
abbrev pub every : {A : Type 0} → (A → Bool) → List A → Bool
every f l = list_all f l

-- the elements that pass the test, in their order
unfoldable pub filter : {A : Type 0} → (A → Bool) → List A → List A
filter f [] = []
filter f (x ∷ xs) = let rest = filter f xs in cond (f x) (x ∷ rest) rest

-- every element of the first list with every element of the second
unfoldable pub pairs : {A B C : Type 0} → (A → B → C) → List A → List B → List C
pairs f [] m = []
pairs f (x ∷ l) m = map (f x) m ++ pairs f l m

-- n numbers from a on
abbrev pub from : ℕ → ℕ → List ℕ
from a zero = []
from a (suc n) = a ∷ from (suc a) n
