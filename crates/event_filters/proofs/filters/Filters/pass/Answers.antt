-- An item's matches go through the detection filters, the queue and the
-- event filters in this order; to make room for them changes no window.
use Rattle.std.proofs.Common.{ℕ, List, refl, subst}
use Rattle.event_filters.specs.Filtering.{FiltersState, Passes}
use Rattle.event_filters.proofs.Given.{passes-from}
use Rattle.event_filters.proofs.filters.Filters.pass.Goals as goal

pub returns-clause-passes : goal.returns-clause-passes
returns-clause-passes c =
    let inside = c.self.inside in
    let config = c.args.config.now in
    let head = c.args.head.now in
    let out = c.args.out.now.items in
    let before : FiltersState = record {
      sizes = inside.sizes.items;
      own_places = inside.own_places.items;
      global_places = inside.global_places.items;
      matches = inside.matches.entries;
      own = inside.own.entries;
      global = inside.global.entries;
    } in
    let after : FiltersState = record {
      sizes = inside.sizes.items;
      own_places = inside.own_places.items;
      global_places = inside.global_places.items;
      matches = c.stay_all.new.windows.entries;
      own = c.keep_all.new.own.entries;
      global = c.keep_all.new.global.entries;
    } in
    let queued = rw (c.deref.ensures.value, c.deref-2.ensures.value) at c.gather.ensures.queued in
    let keeps =
    rw (
      c.as_slice.ensures,
      c.as_slice-2.ensures,
      c.deref-3.ensures.value,
      c.deref-4.ensures.value,
      c.deref-5.ensures.value,
      c.in_ok-reserve-6.ensures.items,
    ) at c.keep_all.ensures.keeps in
    let passes =
    passes-from config c.args.rules.now head c.args.hits.now c.stay_all.new.staying.items c.gather.new.queue.items out
    c.keep_all.new.out.items before after
    c.reserve.new.windows.entries c.reserve-2.new.windows.entries c.reserve-3.new.windows.entries
    c.in_ok-reserve.ensures.same c.in_ok-reserve-2.ensures.same c.in_ok-reserve-3.ensures.same refl refl refl
    c.stay_all.ensures.stays queued keeps in
    subst (λ (old : FiltersState). Passes config c.args.rules.now old out (record { head = head; hits = c.args.hits.now }) after
    c.keep_all.new.out.items) c.self.view_is passes
