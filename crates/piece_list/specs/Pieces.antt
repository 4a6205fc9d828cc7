-- What a contract sees of a list with a place: the list, the place, and how many nodes are spare.
--
-- A cursor as in any doubly linked list (Knuth, The Art of Computer Programming, volume 1, section
-- 2.2.5). To try it on: in 1, 3 the place 1 is at 3, and 2 is the end; putting 2 in before place 1
-- gives 1, 2, 3, and the place 1 is at 2.
use Rattle.std.specs.Prelude.{ℕ, List, refl}
use Rattle.std.specs.Coded.{Coded, code_by, coded×, coded_list, coded_ℕ}

-- the elements, a place from 0 to their number, and the nodes that wait for an element
pub record Pieces (T : Type 0) : Type 0 where
  pub list : List T
  pub place : ℕ
  pub spare : ℕ

module _ {T : Type 0} where
  abbrev pub pieces : List T → ℕ → ℕ → Pieces T
  pieces list place spare = record { list = list; place = place; spare = spare }

  abbrev pub pieces_code : Coded T → Coded (Pieces T)
  pieces_code t = code_by (List T × (ℕ × ℕ)) (coded× (coded_list t) (coded× coded_ℕ coded_ℕ)) (λ p. (p.list, (p.place, p.spare)))
      (λ p. pieces p.0 p.1.0 p.1.1) (λ _. refl)
