use Rattle.std.proofs.Common.{◌≡◌, ◌≤◌, length, take, refl, sym, ◌∙◌, ap, subst, arith, true, false}
use Rattle.std.proofs.lemmas.List.{length-take}
use Rattle.std.specs.Prelude.{Bool, is_some, if◌then◌else◌}
use Rattle.big_info.specs.Layout.{Encodes, octet_count}
use Rattle.big_info.specs.Widths.{FitsWidths}
use Rattle.big_info.specs.declared.info.BigInfo.{BigInfo}
use Rattle.c_values.specs.Infos.{big_info}
use Rattle.layouts_c.proofs.info.air_big_info_write.Goals as goal

at_most : (is : Bool) → (if is then 57 else 33) ≤ 57
at_most true = omega arith
at_most false = omega arith

pub returns-then-put-clause-written : goal.returns-then-put-clause-written
returns-then-put-clause-written c = λ _.
    let octets = c.encode_big_info-written.new.into in
    let count = c.encode_big_info-written.result in
    let within : count ≤ 57 = subst (λ n. n ≤ 57) (sym c.encode_big_info-written.ensures.count) (at_most (is_some c.info_in-info.result.cipher)) in
    let long : count ≤ length octets = omega (arith, within, c.encode_big_info-written.array_long) in
    let whole : length (take count octets) ≡ count = omega (arith, length-take count octets, long) in
    let put : take count c.put.new.room ≡ take count octets = ap (λ n. take n c.put.new.room) (sym whole) ∙ c.put.ensures.put c.if-put.true in
    subst (λ (info : BigInfo). Encodes info 0 (take count c.put.new.room)) c.info_in-info.ensures
    (subst (Encodes c.info_in-info.result 0) (sym put) c.encode_big_info-written.ensures.layout)

pub returns-else-put-clause-room : goal.returns-else-put-clause-room
returns-else-put-clause-room c = λ enough _.
    let octets = c.encode_big_info-written.new.into in
    let count = c.encode_big_info-written.result in
    let is : octet_count c.info_in-info.result ≡ octet_count (big_info c.args.info.now) = ap octet_count c.info_in-info.ensures in
    let short : length (take count octets) ≤ length c.args.room.now =
    omega (arith, length-take count octets, c.encode_big_info-written.ensures.count, is, enough) in
    let fits = c.put.ensures.fits short in
    absurd cc (fits, c.if-put.false)

pub returns-then-put-clause-count : goal.returns-then-put-clause-count
returns-then-put-clause-count c = λ _.
    let octets = c.encode_big_info-written.new.into in
    let count = c.encode_big_info-written.result in
    let within : count ≤ 57 = subst (λ n. n ≤ 57) (sym c.encode_big_info-written.ensures.count) (at_most (is_some c.info_in-info.result.cipher)) in
    let long : count ≤ length octets = omega (arith, within, c.encode_big_info-written.array_long) in
    let whole : length (take count octets) ≡ count = omega (arith, length-take count octets, long) in
    omega (arith, whole, ap length (c.put.ensures.put c.if-put.true), length-take (length (take count octets)) c.put.new.room)

pub returns-then-put-clause-wide : goal.returns-then-put-clause-wide
returns-then-put-clause-wide c = λ wide. absurd (wide (subst FitsWidths c.info_in-info.ensures (c.fits.ensures.0 c.if-not-fits.false)))

pub returns-then-put-clause-same : goal.returns-then-put-clause-same
returns-then-put-clause-same c = λ no. absurd (no refl)

pub returns-else-put-clause-wide : goal.returns-else-put-clause-wide
returns-else-put-clause-wide c = λ wide. absurd (wide (subst FitsWidths c.info_in-info.ensures (c.fits.ensures.0 c.if-not-fits.false)))

pub returns-else-put-clause-same : goal.returns-else-put-clause-same
returns-else-put-clause-same c = λ _. (c.put.ensures.same c.if-put.false, refl)

pub returns-then-not-fits-clause-fits : goal.returns-then-not-fits-clause-fits
returns-then-not-fits-clause-fits c = λ fits _.
    let yes = c.fits.ensures.1 (subst FitsWidths (sym c.info_in-info.ensures) fits) in
    absurd cc (yes, c.if-not-fits.true)

pub returns-then-not-fits-clause-same : goal.returns-then-not-fits-clause-same
returns-then-not-fits-clause-same c = λ _. (refl, refl)
