use Rattle.link_c.proofs.Prelude.{◌≡◌, true, refl, sym, ◌∙◌, le-ltb, are_free}
use Rattle.link_c.proofs.Free.{read_free}
use Rattle.link_c.proofs.writes.vm_link_add.Goals as goal

pub returns-in-Ok-clause-values : goal.returns-in-Ok-clause-values
returns-in-Ok-clause-values c = λ wishes _ is.
    let free : are_free c.args.bis_sync.now ≡ true = sym c.are_free.ensures ∙ c.if-not-are_free.false in (
      refl,
      (
        le-ltb 1 c.args.address_type c.if-address_type-gt1.false,
        (
          refl,
          (
            le-ltb 15 c.args.sid c.if-sid-gt15.false,
            (
              refl,
              (le-ltb 2 c.args.pa_sync c.if-pa_sync-gt2.false, (refl, (refl, read_free c.args.bis_sync.now c.args.metadata.now wishes free is))),
            ),
          ),
        ),
      ),
    )

pub returns-then-not-is_short-clause-bounds : goal.returns-then-not-is_short-clause-bounds
returns-then-not-is_short-clause-bounds c = λ _. (c.if-address_type-gt1.false, c.if-sid-gt15.false, c.if-pa_sync-gt2.false, sym c.are_free.ensures ∙ c.if-not-are_free.false)

pub returns-in-Ok-None-clause-bounds : goal.returns-in-Ok-None-clause-bounds
returns-in-Ok-None-clause-bounds c = λ _. (c.if-address_type-gt1.false, c.if-sid-gt15.false, c.if-pa_sync-gt2.false, sym c.are_free.ensures ∙ c.if-not-are_free.false)

pub returns-in-Err-clause-bounds : goal.returns-in-Err-clause-bounds
returns-in-Err-clause-bounds c = λ _. (c.if-address_type-gt1.false, c.if-sid-gt15.false, c.if-pa_sync-gt2.false, sym c.are_free.ensures ∙ c.if-not-are_free.false)

pub returns-in-Ok-clause-bounds : goal.returns-in-Ok-clause-bounds
returns-in-Ok-clause-bounds c = λ _. (c.if-address_type-gt1.false, c.if-sid-gt15.false, c.if-pa_sync-gt2.false, sym c.are_free.ensures ∙ c.if-not-are_free.false)

pub returns-in-Err-add-clause-bounds : goal.returns-in-Err-add-clause-bounds
returns-in-Err-add-clause-bounds c = λ _. (c.if-address_type-gt1.false, c.if-sid-gt15.false, c.if-pa_sync-gt2.false, sym c.are_free.ensures ∙ c.if-not-are_free.false)
