use Rattle.std.proofs.Common.{◌≡◌, refl, ap, ◌∙◌, arith}
use Rattle.survey.specs.Asks.{told, page_turn}
use Rattle.survey.proofs.Tellings.{exit, s_said, s_unread, s_start, s_more, s_broke}
use Rattle.survey.proofs.Pages.{below-none, below-err, below-some, due-is, stored-is, page-no-top, page-no-first, page-all, turn-stop, turn-both}
use Rattle.survey.proofs.page.+pages.Goals as goal

pub ask_below-returns-in_err-page : goal.ask_below-returns-in_err-page
ask_below-returns-in_err-page g t c =
    s_said (λ w s. refl) (ap told (exit _ c.from_residual.ensures.1)) (below-err _ c.args.parent.level c.args.due c.args.parent.page.0 c.args.address.0 (c.in_err-page.ensures.told _))

pub ask_below-returns-in-Some : goal.ask_below-returns-in-Some
ask_below-returns-in-Some g t c =
    below-some c.link.new.self c.args.parent.level c.args.due c.args.parent.page.0 c.args.address.0 c.in-Some.is c.in_ok-page.ensures.led (c.in_ok-page.ensures.told _) c.ask_page.ensures

pub ask_below-returns-in-None : goal.ask_below-returns-in-None
ask_below-returns-in-None g t c =
    below-none _ c.link.new.self c.args.parent.level c.args.due c.args.parent.page.0 c.args.address.0 c.in-None.is c.in_ok-page.ensures.led (c.in_ok-page.ensures.told _)

pub ask_page-returns-in_err-get : goal.ask_page-returns-in_err-get
ask_page-returns-in_err-get g t c =
    let i = c.requires.inside in
    s_said (λ w s. refl) (ap told (exit _ c.from_residual.ensures.1)) (s_unread _ _ c.in_err-get.ensures.rule c.in_err-get.ensures.done (omega arith))

pub ask_page-returns-in_err-head : goal.ask_page-returns-in_err-head
ask_page-returns-in_err-head g t c =
    s_said (λ w s. refl) (ap told (exit _ c.from_residual-in_err-head.ensures.1))
    (page-no-top c.args.place.level c.args.place.page.0 c.in_ok-get.ensures.rule c.in_ok-get.ensures.done c.from.ensures c.requires.level (c.in_err-head.ensures.told _))

pub ask_page-returns-in_err-ask_below : goal.ask_page-returns-in_err-ask_below
ask_page-returns-in_err-ask_below g t c =
    let h = c.in_ok-head.ensures.top in
    s_said (λ w s. refl) (ap told (exit _ c.from_residual-in_err-ask_below.ensures.1))
    (page-no-first c.args.place.level c.args.place.page.0 c.in_ok-get.ensures.rule c.in_ok-get.ensures.done c.from.ensures c.requires.level (c.in_ok-head.ensures.told _) (due-is _ _ _ h c.is_leaf-inner.ensures) h.first c.in_err-ask_below.ensures)

pub ask_page-loop-i-init : goal.ask_page-loop-i-init
ask_page-loop-i-init g t c = s_start _ _ (page_turn _ c.args.place.level c.args.place.page.0) 0

pub ask_page-returns-in_err-ask_entry : goal.ask_page-returns-in_err-ask_entry
ask_page-returns-in_err-ask_entry g t c =
    let h = c.in_ok-head.ensures.top in
    let b = c.get.new.into in
    s_said (λ w s. refl) (ap told (exit _ c.from_residual-in_err-ask_entry.ensures.1))
    (page-all c.args.place.level c.args.place.page.0 c.in_ok-get.ensures.rule c.in_ok-get.ensures.done c.from.ensures c.requires.level (c.in_ok-head.ensures.told _) (due-is _ _ _ h c.is_leaf-inner.ensures) h.first c.in_ok-ask_below.ensures h.count
    (s_broke (page_turn b c.args.place.level c.args.place.page.0) 0 c.loop-i.i c.in_ok-head.head.count (omega arith) (omega arith) c.loop-i.invariant
    (turn-stop b c.args.place.level c.args.place.page.0 c.loop-i.i (stored-is b _ _ c.unwrap-entry.ensures c.read.ensures) c.in_err-ask_entry.ensures)))

pub ask_page-returns-in_err-ask_below-2 : goal.ask_page-returns-in_err-ask_below-2
ask_page-returns-in_err-ask_below-2 g t c =
    let h = c.in_ok-head.ensures.top in
    let b = c.get.new.into in
    s_said (λ w s. refl) (ap told (exit _ c.from_residual-in_err-ask_below-2.ensures.1))
    (page-all c.args.place.level c.args.place.page.0 c.in_ok-get.ensures.rule c.in_ok-get.ensures.done c.from.ensures c.requires.level (c.in_ok-head.ensures.told _) (due-is _ _ _ h c.is_leaf-inner.ensures) h.first c.in_ok-ask_below.ensures h.count
    (s_broke (page_turn b c.args.place.level c.args.place.page.0) 0 c.loop-i.i c.in_ok-head.head.count (omega arith) (omega arith) c.loop-i.invariant
    (turn-both b c.args.place.level c.args.place.page.0 c.loop-i.i (stored-is b _ _ c.unwrap-entry.ensures c.read.ensures) c.in_ok-ask_entry.ensures (due-is _ _ _ h c.is_leaf-inner.ensures) c.in_err-ask_below-2.ensures)))

pub ask_page-loop-i-preserved : goal.ask_page-loop-i-preserved
ask_page-loop-i-preserved g t c =
    let h = c.in_ok-head.ensures.top in
    let b = c.get.new.into in
    s_more (page_turn b c.args.place.level c.args.place.page.0) 0 c.loop-i.i (omega arith) c.loop-i.invariant
    (turn-both b c.args.place.level c.args.place.page.0 c.loop-i.i (stored-is b _ _ c.unwrap-entry.ensures c.read.ensures) c.in_ok-ask_entry.ensures (due-is _ _ _ h c.is_leaf-inner.ensures) c.in_ok-ask_below-2.ensures)

pub ask_page-returns : goal.ask_page-returns
ask_page-returns g t c =
    let h = c.in_ok-head.ensures.top in
    let e : c.loop-i.i ≡ c.in_ok-head.head.count = omega arith in
    page-all c.args.place.level c.args.place.page.0 c.in_ok-get.ensures.rule c.in_ok-get.ensures.done c.from.ensures c.requires.level (c.in_ok-head.ensures.told _) (due-is _ _ _ h c.is_leaf-inner.ensures) h.first c.in_ok-ask_below.ensures (e ∙ h.count) c.loop-i.invariant
