-- Sorted and without repeats, those of the hits and the due rules whose headers fit are the candidates, for two ascending
-- lists with the same members are one (`candidates-are`).
use Rattle.std.proofs.Common.{◌≡◌, ℕ, List, ◌++◌, eqb, ap, ◌∙◌}
use Rattle.std.specs.List.{filter, dedup}
use Rattle.std.proofs.lemmas.List.Filters.{dedup_is}
use Rattle.fast_pattern.specs.Grouping.{fits_at}
use Rattle.fast_pattern.proofs.Candidates.Selecting.{candidates-are}
use Rattle.fast_pattern.proofs.groups.Groups.find_let_in.Goals as goal

pub returns-clause-appended : goal.returns-clause-appended
returns-clause-appended c = record {
  appended = λ rules hold.
      let groups = c.args.self.now in
      let carried = c.args.head.now.body in
      let payload = c.args.payload.now in
      let hits = c.in_ok-places.places.items in
      let sorted = c.sort_unstable.new.self.items in
      let places = c.dedup.new.self.items in
      let once : places ≡ dedup eqb sorted = dedup_is eqb sorted places c.dedup.ensures.filtered in
      let found =
      c.in_ok-found.ensures
      ∙ ap (λ rs. filter (fits_at rs carried) c.deref-2.result.now) c.deref.ensures.value
      ∙ ap (filter (fits_at groups.rules.items carried)) c.deref-2.ensures.value in
      let are =
      candidates-are groups rules carried payload hold hits c.push_due.new.places.items sorted places c.in_ok-places.ensures
      (c.in_ok-push_due.ensures.added rules hold)
      c.sort_unstable.ensures.permutation c.sort_unstable.ensures.sorted once in
      c.in_ok-extend_from_slice.ensures.items
      ∙ ap (λ (xs : List ℕ). c.args.out.now.items ++ xs) (c.deref-3.ensures.value ∙ found ∙ are);
}
