-- An item that the header fits has its ports let in on both sides (`tcp-lets`, `udp-lets`); for `ip` all six parts are open,
-- since none is closed by the next call.
use Rattle.std.proofs.Common.{◌≡◌, ℕ, zero, suc, ◌<◌, true, List, sym, ap, ◌∙◌, arith}
use Rattle.fast_pattern.specs.Candidates.{header_fits}
use Rattle.fast_pattern.specs.Doors.{is_all}
use Rattle.fast_pattern.proofs.Ports.Opening.{all-kept, tcp-lets, udp-lets, icmp-lets, ip-lets}
use Rattle.fast_pattern.proofs.doors.open_rule.Goals as goal

pub returns-in-Tcp-clause-opens : goal.returns-in-Tcp-clause-opens
returns-in-Tcp-clause-opens c = λ carried fits.
    let a = c.args.asked.now in
    let o = c.open_sides.ensures in
    tcp-lets c.open_sides.new.table a.sports a.dports a.both o.sources o.targets o.back carried (ap (λ p. header_fits p a.sports a.dports a.both carried) (sym c.in-Tcp.is) ∙ fits)

pub returns-in-Udp-clause-opens : goal.returns-in-Udp-clause-opens
returns-in-Udp-clause-opens c = λ carried fits.
    let a = c.args.asked.now in
    let o = c.open_sides-in-Udp.ensures in
    udp-lets c.open_sides-in-Udp.new.table a.sports a.dports a.both o.sources o.targets o.back carried (ap (λ p. header_fits p a.sports a.dports a.both carried) (sym c.in-Udp.is) ∙ fits)

pub returns-in-Icmp-clause-opens : goal.returns-in-Icmp-clause-opens
returns-in-Icmp-clause-opens c = λ carried fits.
    let a = c.args.asked.now in
    icmp-lets c.open_all.new.table a.sports a.dports a.both c.open_all.ensures.own carried (ap (λ p. header_fits p a.sports a.dports a.both carried) (sym c.in-Icmp.is) ∙ fits)

pub returns-in-Ip-clause-opens : goal.returns-in-Ip-clause-opens
returns-in-Ip-clause-opens c = λ carried fits.
    let t1 = c.open_all-in-Ip.new.table in
    let t2 = c.open_all-in-Ip-2.new.table in
    let t3 = c.open_all-in-Ip-3.new.table in
    let t4 = c.open_all-in-Ip-4.new.table in
    let t5 = c.open_all-in-Ip-5.new.table in
    let t6 = c.open_all-in-Ip-6.new.table in
    let k2 = c.open_all-in-Ip-2.ensures.keeps in
    let k3 = c.open_all-in-Ip-3.ensures.keeps in
    let k4 = c.open_all-in-Ip-4.ensures.keeps in
    let k5 = c.open_all-in-Ip-5.ensures.keeps in
    let k6 = c.open_all-in-Ip-6.ensures.keeps in
    let a0 : is_all t6 0 ≡ true = all-kept t5 t6 0 k6 (all-kept t4 t5 0 k5 (all-kept t3 t4 0 k4 (all-kept t2 t3 0 k3 (all-kept t1 t2 0 k2 c.open_all-in-Ip.ensures.own)))) in
    let a1 : is_all t6 1 ≡ true = all-kept t5 t6 1 k6 (all-kept t4 t5 1 k5 (all-kept t3 t4 1 k4 (all-kept t2 t3 1 k3 c.open_all-in-Ip-2.ensures.own))) in
    let a2 : is_all t6 2 ≡ true = all-kept t5 t6 2 k6 (all-kept t4 t5 2 k5 (all-kept t3 t4 2 k4 c.open_all-in-Ip-3.ensures.own)) in
    let a3 : is_all t6 3 ≡ true = all-kept t5 t6 3 k6 (all-kept t4 t5 3 k5 c.open_all-in-Ip-4.ensures.own) in
    let a4 : is_all t6 4 ≡ true = all-kept t5 t6 4 k6 c.open_all-in-Ip-5.ensures.own in
    let a5 : is_all t6 5 ≡ true = c.open_all-in-Ip-6.ensures.own in
    ip-lets t6 (all t6 a0 a1 a2 a3 a4 a5) carried
  where
    all : (t : List ℕ) → is_all t 0 ≡ true → is_all t 1 ≡ true → is_all t 2 ≡ true → is_all t 3 ≡ true → is_all t 4 ≡ true → is_all t 5 ≡ true → (part : ℕ) → part < 6 → is_all t part ≡ true
    all t a0 a1 a2 a3 a4 a5 zero h = a0
    all t a0 a1 a2 a3 a4 a5 (suc zero) h = a1
    all t a0 a1 a2 a3 a4 a5 (suc (suc zero)) h = a2
    all t a0 a1 a2 a3 a4 a5 (suc (suc (suc zero))) h = a3
    all t a0 a1 a2 a3 a4 a5 (suc (suc (suc (suc zero)))) h = a4
    all t a0 a1 a2 a3 a4 a5 (suc (suc (suc (suc (suc zero))))) h = a5
    all t a0 a1 a2 a3 a4 a5 (suc (suc (suc (suc (suc (suc n)))))) h = absurd (omega arith)
