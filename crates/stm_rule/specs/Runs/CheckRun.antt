-- A check that loads the slot of another's entry: caller 1 reads word 0, caller 0 commits word 1,
-- and the start of caller 1 moves past it.
use Rattle.std.proofs.Common.{◌≡◌, ℕ, zero, suc, ◌<◌, List, [], ◌∷◌, true, false, refl, sym, subst, arith, ◌∙◌}
use Rattle.std.specs.Prelude.{◌^◌}
use Rattle.stm_model.specs.declared.alg.Alg.TheVariants.{RingSw}
use Rattle.rule_base.specs.declared.entries.Cell.{Cell}
use Rattle.stm_model.specs.declared.config.Config.{Config}
use Rattle.rule_base.specs.declared.layout.TheConstants.{SLOT_WORDS}
use Rattle.rule_base.specs.declared.views.View.{View}
use Rattle.rule_base.specs.Lemmas.EncodingLemmas.{fenced-none}
use Rattle.rule_base.specs.History.{Keeps}
use Rattle.rule_base.specs.Lemmas.HistoryLemmas.{inside-more, small-more}
use Rattle.rule_base.specs.Opening.{opening_world}
use Rattle.rule_base.specs.Runs.{run, Allowed}
use Rattle.rule_ring.specs.RingRuns.RingStep.{ring_begins, ring_loads, ring_looks, ring_words, ring_agains, ring_moves, ring_locks, ring_ticks, ring_slots, ring_enters, ring_writes, ring_dones, ring_frees}
use Rattle.rule_ring.specs.RingSteps.{HasRing, CanRingMove}
use Rattle.rule_ring.specs.SlotFilter.{part_bit, slot_filter}
use Rattle.rule_ring.specs.Slots.{slot_place, has_word, loaded_word}
use Rattle.stm_rule.specs.Runs.CoreRuns.{CoreStep, core_kind, CoreMay}
use Rattle.stm_rule.specs.Runs.CoreRuns.CoreStep.{announces, loads_gate, departs, aims, takes_gate, checks, reopens, settles, stores_base, stores_done, installs, of_ring}

abbrev pub cell_of : ℕ → List Cell
cell_of x = record { at = 1; value = x } ∷ []

-- the only slot since the start was loaded, and doesn't meet the filter
one_move : {v : View} → HasRing v → v.attempt.start ≡ 0 → v.ring_read.clock ≡ 1 → v.ring_read.checking ≡ true → v.ring_read.sure ≡ true
    → has_word v.ring_read.words 1 0 ≡ true → has_word v.ring_read.words 1 1 ≡ true → has_word v.ring_read.words 1 2 ≡ true
    → has_word v.ring_read.words 1 3 ≡ true → has_word v.ring_read.words 1 4 ≡ true → has_word v.ring_read.words 1 5 ≡ true
    → has_word v.ring_read.words 1 6 ≡ true → has_word v.ring_read.words 1 7 ≡ true → has_word v.ring_read.words 1 8 ≡ true
    → has_word v.ring_read.words 1 9 ≡ true → has_word v.ring_read.words 1 10 ≡ true → has_word v.ring_read.words 1 11 ≡ true
    → has_word v.ring_read.words 1 12 ≡ true → has_word v.ring_read.words 1 13 ≡ true → has_word v.ring_read.words 1 14 ≡ true
    → has_word v.ring_read.words 1 15 ≡ true
    → slot_filter.meets (loaded_word v.ring_read.words 1) (slot_filter.word v.ring_read.watched) ≡ false → CanRingMove slot_filter v
one_move {v = v} has start clock checking sure p0 p1 p2 p3 p4 p5 p6 p7 p8 p9 p10 p11 p12 p13 p14 p15 apart = record {
  has = has;
  checking = checking;
  sure = sure;
  clear =
      λ e l m slot is.
      let s : e ≡ 1 = omega arith in
      sym (slot_filter.same (loaded_word v.ring_read.words 1) slot (slot_filter.word v.ring_read.watched) (λ i low.
      subst (λ (t : ℕ). (j : ℕ) → j < SLOT_WORDS → has_word v.ring_read.words t j ≡ true → loaded_word v.ring_read.words t j ≡ slot j) s is
      i low (each i low))) ∙ apart;
}
  where
    each : (i : ℕ) → i < SLOT_WORDS → has_word v.ring_read.words 1 i ≡ true
    each zero l = p0
    each (suc zero) l = p1
    each (suc (suc zero)) l = p2
    each (suc (suc (suc zero))) l = p3
    each (suc (suc (suc (suc zero)))) l = p4
    each (suc (suc (suc (suc (suc zero))))) l = p5
    each (suc (suc (suc (suc (suc (suc zero)))))) l = p6
    each (suc (suc (suc (suc (suc (suc (suc zero))))))) l = p7
    each (suc (suc (suc (suc (suc (suc (suc (suc zero)))))))) l = p8
    each (suc (suc (suc (suc (suc (suc (suc (suc (suc zero))))))))) l = p9
    each (suc (suc (suc (suc (suc (suc (suc (suc (suc (suc zero)))))))))) l = p10
    each (suc (suc (suc (suc (suc (suc (suc (suc (suc (suc (suc zero))))))))))) l = p11
    each (suc (suc (suc (suc (suc (suc (suc (suc (suc (suc (suc (suc zero)))))))))))) l = p12
    each (suc (suc (suc (suc (suc (suc (suc (suc (suc (suc (suc (suc (suc zero))))))))))))) l = p13
    each (suc (suc (suc (suc (suc (suc (suc (suc (suc (suc (suc (suc (suc (suc zero)))))))))))))) l = p14
    each (suc (suc (suc (suc (suc (suc (suc (suc (suc (suc (suc (suc (suc (suc (suc zero))))))))))))))) l = p15
    each (suc (suc (suc (suc (suc (suc (suc (suc (suc (suc (suc (suc (suc (suc (suc (suc i)))))))))))))))) l = absurd (omega arith)

abbrev pub checked_run : ℕ → List (ℕ × CoreStep)
checked_run x =
    (0, announces) ∷ (0, aims) ∷ (0, takes_gate 0) ∷ (0, checks 1) ∷ (0, departs) ∷ (0, settles) ∷ (0, stores_base 0) ∷ (0, stores_done 0)
    ∷ (0, installs 0 RingSw) ∷ (0, reopens 0 RingSw) ∷ (1, announces) ∷ (1, loads_gate) ∷ (1, of_ring ring_begins)
    ∷ (1, of_ring (ring_loads 0)) ∷ (0, announces) ∷ (0, loads_gate) ∷ (0, of_ring ring_begins) ∷ (0, of_ring ring_locks)
    ∷ (0, of_ring ring_ticks) ∷ (0, of_ring ring_looks) ∷ (0, of_ring (ring_slots 2 1 0 (cell_of x)))
    ∷ (0, of_ring (ring_slots 2 1 1 (cell_of x))) ∷ (0, of_ring (ring_slots 2 1 2 (cell_of x)))
    ∷ (0, of_ring (ring_slots 2 1 3 (cell_of x))) ∷ (0, of_ring (ring_slots 2 1 4 (cell_of x)))
    ∷ (0, of_ring (ring_slots 2 1 5 (cell_of x))) ∷ (0, of_ring (ring_slots 2 1 6 (cell_of x)))
    ∷ (0, of_ring (ring_slots 2 1 7 (cell_of x))) ∷ (0, of_ring (ring_slots 2 1 8 (cell_of x)))
    ∷ (0, of_ring (ring_slots 2 1 9 (cell_of x))) ∷ (0, of_ring (ring_slots 2 1 10 (cell_of x)))
    ∷ (0, of_ring (ring_slots 2 1 11 (cell_of x))) ∷ (0, of_ring (ring_slots 2 1 12 (cell_of x)))
    ∷ (0, of_ring (ring_slots 2 1 13 (cell_of x))) ∷ (0, of_ring (ring_slots 2 1 14 (cell_of x)))
    ∷ (0, of_ring (ring_slots 2 1 15 (cell_of x))) ∷ (0, of_ring (ring_enters 1)) ∷ (0, of_ring (ring_writes 1 x))
    ∷ (0, of_ring (ring_dones 1)) ∷ (0, of_ring ring_frees) ∷ (0, departs) ∷ (1, of_ring ring_looks) ∷ (1, of_ring (ring_words 2 1 0))
    ∷ (1, of_ring (ring_words 2 1 1)) ∷ (1, of_ring (ring_words 2 1 2)) ∷ (1, of_ring (ring_words 2 1 3)) ∷ (1, of_ring (ring_words 2 1 4))
    ∷ (1, of_ring (ring_words 2 1 5)) ∷ (1, of_ring (ring_words 2 1 6)) ∷ (1, of_ring (ring_words 2 1 7)) ∷ (1, of_ring (ring_words 2 1 8))
    ∷ (1, of_ring (ring_words 2 1 9)) ∷ (1, of_ring (ring_words 2 1 10)) ∷ (1, of_ring (ring_words 2 1 11))
    ∷ (1, of_ring (ring_words 2 1 12)) ∷ (1, of_ring (ring_words 2 1 13)) ∷ (1, of_ring (ring_words 2 1 14))
    ∷ (1, of_ring (ring_words 2 1 15)) ∷ (1, of_ring (ring_agains 2)) ∷ (1, of_ring ring_moves) ∷ (1, departs) ∷ []

abbrev pub CoreChecks : ((ℕ → ℕ) → Type 0) → Config → Type 0
CoreChecks good c = (x : ℕ) → 0 < c.words → 1 < c.words → x < 2 ^ 64 → Keeps good [] (cell_of x)
    → Allowed core_kind (CoreMay good (record c { callers = 2; clock = 0; ring = 2 })) (checked_run x) (opening_world (record c { callers = 2; clock = 0; ring = 2 }))
    × (((run core_kind (CoreMay good (record c { callers = 2; clock = 0; ring = 2 })) (checked_run x) (opening_world (record c { callers = 2; clock = 0; ring = 2 }))).views 1).attempt.start ≡ 1)
    × (((run core_kind (CoreMay good (record c { callers = 2; clock = 0; ring = 2 })) (checked_run x) (opening_world (record c { callers = 2; clock = 0; ring = 2 }))).views 1).attempt.reads ≡ record { at = 0; value = 0 } ∷ [])

pub core_checks_lem : (good : (ℕ → ℕ) → Type 0) (c : Config) → CoreChecks good c
unfolding slot_place slot_filter part_bit
core_checks_lem good c x low high small keeps = (
  (
    (omega arith, refl),
    (
      (omega arith, refl),
      (
        (omega arith, record { phase = refl; aimed = refl }),
        (
          (omega arith, record { holds = refl; other = λ e. absurd (omega arith) }),
          (
            (omega arith, record { phase = refl; reopened = λ e. absurd cc; unlocked = refl; disowned = refl; unwritten = refl; uncommitted = refl; unentered = λ e. refl }),
            (
              (omega arith, record { holds = refl; quiet = λ k l o. grind (arith, l, o) }),
              (
                (omega arith, record { closing = λ e. refl; quiescent = refl; time = refl }),
                (
                  (omega arith, record { closing = λ e. refl; quiescent = refl; time = refl }),
                  (
                    (omega arith, record { phase = refl; guarded = refl; ungiven = refl; quiescent = refl; rebased = refl; completed = refl; even = λ e. absurd cc }),
                    (
                      (omega arith, record { phase = refl; absent = refl; named = refl; guarded = refl; ungiven = refl; unentered = refl }),
                      (
                        (omega arith, refl),
                        (
                          (omega arith, refl),
                          (
                            (omega arith, record { runs = record { phase = refl; algorithm = refl; plain = refl }; unlocked = refl }),
                            (
                              (omega arith, (record { has = record { runs = record { phase = refl; algorithm = refl; plain = refl }; inside = refl }; inside = low; settled = refl }, fenced-none 0)),
                              (
                                (omega arith, refl),
                                (
                                  (omega arith, refl),
                                  (
                                    (omega arith, record { runs = record { phase = refl; algorithm = refl; plain = refl }; unlocked = refl }),
                                    (
                                      (omega arith, record { has = record { runs = record { phase = refl; algorithm = refl; plain = refl }; inside = refl }; free = refl }),
                                      (
                                        (omega arith, record { has = record { runs = record { phase = refl; algorithm = refl; plain = refl }; inside = refl }; taken = refl; unentered = refl }),
                                        (
                                          (omega arith, record { has = record { runs = record { phase = refl; algorithm = refl; plain = refl }; inside = refl } }),
                                          (
                                            (
                                              omega arith,
                                              (
                                                refl,
                                                record {
                                                  turn = record {
                                                    has =
                                                        record { runs = record { phase = refl; algorithm = refl; plain = refl }; inside = refl };
                                                    taken = refl;
                                                    unentered = refl;
                                                  };
                                                  ticked = refl;
                                                  checked = refl;
                                                  next = refl;
                                                  index = refl;
                                                  low = omega arith;
                                                  same = λ l. absurd (omega arith);
                                                },
                                              ),
                                            ),
                                            (
                                              (
                                                omega arith,
                                                (
                                                  refl,
                                                  record {
                                                    turn = record {
                                                      has =
                                                          record { runs = record { phase = refl; algorithm = refl; plain = refl }; inside = refl };
                                                      taken = refl;
                                                      unentered = refl;
                                                    };
                                                    ticked = refl;
                                                    checked = refl;
                                                    next = refl;
                                                    index = refl;
                                                    low = omega arith;
                                                    same = λ l. refl;
                                                  },
                                                ),
                                              ),
                                              (
                                                (
                                                  omega arith,
                                                  (
                                                    refl,
                                                    record {
                                                      turn = record {
                                                        has =
                                                            record { runs = record { phase = refl; algorithm = refl; plain = refl }; inside = refl };
                                                        taken = refl;
                                                        unentered = refl;
                                                      };
                                                      ticked = refl;
                                                      checked = refl;
                                                      next = refl;
                                                      index = refl;
                                                      low = omega arith;
                                                      same = λ l. refl;
                                                    },
                                                  ),
                                                ),
                                                (
                                                  (
                                                    omega arith,
                                                    (
                                                      refl,
                                                      record {
                                                        turn = record {
                                                          has =
                                                              record { runs = record { phase = refl; algorithm = refl; plain = refl }; inside = refl };
                                                          taken = refl;
                                                          unentered = refl;
                                                        };
                                                        ticked = refl;
                                                        checked = refl;
                                                        next = refl;
                                                        index = refl;
                                                        low = omega arith;
                                                        same = λ l. refl;
                                                      },
                                                    ),
                                                  ),
                                                  (
                                                    (
                                                      omega arith,
                                                      (
                                                        refl,
                                                        record {
                                                          turn = record {
                                                            has = record
                                                                { runs = record { phase = refl; algorithm = refl; plain = refl }; inside = refl };
                                                            taken = refl;
                                                            unentered = refl;
                                                          };
                                                          ticked = refl;
                                                          checked = refl;
                                                          next = refl;
                                                          index = refl;
                                                          low = omega arith;
                                                          same = λ l. refl;
                                                        },
                                                      ),
                                                    ),
                                                    (
                                                      (
                                                        omega arith,
                                                        (
                                                          refl,
                                                          record {
                                                            turn = record {
                                                              has = record
                                                                  { runs = record { phase = refl; algorithm = refl; plain = refl }; inside = refl };
                                                              taken = refl;
                                                              unentered = refl;
                                                            };
                                                            ticked = refl;
                                                            checked = refl;
                                                            next = refl;
                                                            index = refl;
                                                            low = omega arith;
                                                            same = λ l. refl;
                                                          },
                                                        ),
                                                      ),
                                                      (
                                                        (
                                                          omega arith,
                                                          (
                                                            refl,
                                                            record {
                                                              turn = record {
                                                                has = record
                                                                    { runs = record { phase = refl; algorithm = refl; plain = refl }; inside = refl };
                                                                taken = refl;
                                                                unentered = refl;
                                                              };
                                                              ticked = refl;
                                                              checked = refl;
                                                              next = refl;
                                                              index = refl;
                                                              low = omega arith;
                                                              same = λ l. refl;
                                                            },
                                                          ),
                                                        ),
                                                        (
                                                          (
                                                            omega arith,
                                                            (
                                                              refl,
                                                              record {
                                                                turn = record {
                                                                  has = record
                                                                      { runs = record { phase = refl; algorithm = refl; plain = refl }; inside = refl };
                                                                  taken = refl;
                                                                  unentered = refl;
                                                                };
                                                                ticked = refl;
                                                                checked = refl;
                                                                next = refl;
                                                                index = refl;
                                                                low = omega arith;
                                                                same = λ l. refl;
                                                              },
                                                            ),
                                                          ),
                                                          (
                                                            (
                                                              omega arith,
                                                              (
                                                                refl,
                                                                record {
                                                                  turn = record {
                                                                    has = record {
                                                                      runs =
                                                                          record { phase = refl; algorithm = refl; plain = refl };
                                                                      inside = refl;
                                                                    };
                                                                    taken = refl;
                                                                    unentered = refl;
                                                                  };
                                                                  ticked = refl;
                                                                  checked = refl;
                                                                  next = refl;
                                                                  index = refl;
                                                                  low = omega arith;
                                                                  same = λ l. refl;
                                                                },
                                                              ),
                                                            ),
                                                            (
                                                              (
                                                                omega arith,
                                                                (
                                                                  refl,
                                                                  record {
                                                                    turn = record {
                                                                      has = record {
                                                                        runs =
                                                                            record { phase = refl; algorithm = refl; plain = refl };
                                                                        inside = refl;
                                                                      };
                                                                      taken = refl;
                                                                      unentered = refl;
                                                                    };
                                                                    ticked = refl;
                                                                    checked = refl;
                                                                    next = refl;
                                                                    index = refl;
                                                                    low = omega arith;
                                                                    same = λ l. refl;
                                                                  },
                                                                ),
                                                              ),
                                                              (
                                                                (
                                                                  omega arith,
                                                                  (
                                                                    refl,
                                                                    record {
                                                                      turn = record {
                                                                        has = record {
                                                                          runs =
                                                                              record { phase = refl; algorithm = refl; plain = refl };
                                                                          inside = refl;
                                                                        };
                                                                        taken = refl;
                                                                        unentered = refl;
                                                                      };
                                                                      ticked = refl;
                                                                      checked = refl;
                                                                      next = refl;
                                                                      index = refl;
                                                                      low = omega arith;
                                                                      same = λ l. refl;
                                                                    },
                                                                  ),
                                                                ),
                                                                (
                                                                  (
                                                                    omega arith,
                                                                    (
                                                                      refl,
                                                                      record {
                                                                        turn = record {
                                                                          has = record {
                                                                            runs =
                                                                                record { phase = refl; algorithm = refl; plain = refl };
                                                                            inside = refl;
                                                                          };
                                                                          taken = refl;
                                                                          unentered = refl;
                                                                        };
                                                                        ticked = refl;
                                                                        checked = refl;
                                                                        next = refl;
                                                                        index = refl;
                                                                        low = omega arith;
                                                                        same = λ l. refl;
                                                                      },
                                                                    ),
                                                                  ),
                                                                  (
                                                                    (
                                                                      omega arith,
                                                                      (
                                                                        refl,
                                                                        record {
                                                                          turn = record {
                                                                            has = record {
                                                                              runs =
                                                                                  record { phase = refl; algorithm = refl; plain = refl };
                                                                              inside = refl;
                                                                            };
                                                                            taken = refl;
                                                                            unentered = refl;
                                                                          };
                                                                          ticked = refl;
                                                                          checked = refl;
                                                                          next = refl;
                                                                          index = refl;
                                                                          low = omega arith;
                                                                          same = λ l. refl;
                                                                        },
                                                                      ),
                                                                    ),
                                                                    (
                                                                      (
                                                                        omega arith,
                                                                        (
                                                                          refl,
                                                                          record {
                                                                            turn = record {
                                                                              has = record {
                                                                                runs =
                                                                                    record { phase = refl; algorithm = refl; plain = refl };
                                                                                inside = refl;
                                                                              };
                                                                              taken = refl;
                                                                              unentered = refl;
                                                                            };
                                                                            ticked = refl;
                                                                            checked = refl;
                                                                            next = refl;
                                                                            index = refl;
                                                                            low = omega arith;
                                                                            same = λ l. refl;
                                                                          },
                                                                        ),
                                                                      ),
                                                                      (
                                                                        (
                                                                          omega arith,
                                                                          (
                                                                            refl,
                                                                            record {
                                                                              turn = record {
                                                                                has = record {
                                                                                  runs =
                                                                                      record { phase = refl; algorithm = refl; plain = refl };
                                                                                  inside = refl;
                                                                                };
                                                                                taken = refl;
                                                                                unentered = refl;
                                                                              };
                                                                              ticked = refl;
                                                                              checked = refl;
                                                                              next = refl;
                                                                              index = refl;
                                                                              low = omega arith;
                                                                              same = λ l. refl;
                                                                            },
                                                                          ),
                                                                        ),
                                                                        (
                                                                          (
                                                                            omega arith,
                                                                            (
                                                                              refl,
                                                                              record {
                                                                                turn = record {
                                                                                  has = record {
                                                                                    runs =
                                                                                        record { phase = refl; algorithm = refl; plain = refl };
                                                                                    inside = refl;
                                                                                  };
                                                                                  taken = refl;
                                                                                  unentered = refl;
                                                                                };
                                                                                ticked = refl;
                                                                                checked = refl;
                                                                                next = refl;
                                                                                index = refl;
                                                                                low = omega arith;
                                                                                same = λ l. refl;
                                                                              },
                                                                            ),
                                                                          ),
                                                                          (
                                                                            (
                                                                              omega arith,
                                                                              (
                                                                                record {
                                                                                  turn = record {
                                                                                    has = record {
                                                                                      runs =
                                                                                          record { phase = refl; algorithm = refl; plain = refl };
                                                                                      inside = refl;
                                                                                    };
                                                                                    taken = refl;
                                                                                    unentered = refl;
                                                                                  };
                                                                                  ticked = refl;
                                                                                  checked = refl;
                                                                                  full = refl;
                                                                                  time = refl;
                                                                                  limit = omega arith;
                                                                                  settled = refl;
                                                                                  free = refl;
                                                                                  wrote = λ e. cc;
                                                                                  writes_inside = inside-more c.words
                                                                                      (record { at = 1; value = x }) [] high (λ a e. absurd cc);
                                                                                  writes_small =
                                                                                      small-more (record { at = 1; value = x }) [] small (λ a d l. l);
                                                                                  keeps = keeps;
                                                                                },
                                                                                λ b e. fenced-none b,
                                                                              ),
                                                                            ),
                                                                            (
                                                                              (
                                                                                omega arith,
                                                                                record {
                                                                                  entered = record {
                                                                                    runs =
                                                                                        record { phase = refl; algorithm = refl; plain = refl };
                                                                                    committed = refl;
                                                                                    unfinished = refl;
                                                                                  };
                                                                                  owed = refl;
                                                                                  value = refl;
                                                                                },
                                                                              ),
                                                                              (
                                                                                (
                                                                                  omega arith,
                                                                                  record {
                                                                                    entered = record {
                                                                                      runs =
                                                                                          record { phase = refl; algorithm = refl; plain = refl };
                                                                                      committed = refl;
                                                                                      unfinished = refl;
                                                                                    };
                                                                                    time = refl;
                                                                                    written = λ a. refl;
                                                                                    free = refl;
                                                                                  },
                                                                                ),
                                                                                (
                                                                                  (omega arith, record { runs = record { phase = refl; algorithm = refl; plain = refl }; taken = refl; finished = λ e. refl }),
                                                                                  (
                                                                                    (omega arith, record { phase = refl; reopened = λ e. refl; unlocked = refl; disowned = refl; unwritten = refl; uncommitted = refl; unentered = λ e. refl }),
                                                                                    (
                                                                                      (omega arith, record { has = record { runs = record { phase = refl; algorithm = refl; plain = refl }; inside = refl } }),
                                                                                      (
                                                                                        (
                                                                                          omega arith,
                                                                                          (
                                                                                            refl,
                                                                                            record {
                                                                                              has = record {
                                                                                                runs = record
                                                                                                    { phase = refl; algorithm = refl; plain = refl };
                                                                                                inside = refl;
                                                                                              };
                                                                                              checking = refl;
                                                                                              unsure = refl;
                                                                                              since = omega arith;
                                                                                              upto = omega arith;
                                                                                              near = omega arith;
                                                                                              index = omega arith;
                                                                                            },
                                                                                          ),
                                                                                        ),
                                                                                        (
                                                                                          (
                                                                                            omega arith,
                                                                                            (
                                                                                              refl,
                                                                                              record {
                                                                                                has = record {
                                                                                                  runs = record
                                                                                                      { phase = refl; algorithm = refl; plain = refl };
                                                                                                  inside = refl;
                                                                                                };
                                                                                                checking = refl;
                                                                                                unsure = refl;
                                                                                                since = omega arith;
                                                                                                upto = omega arith;
                                                                                                near = omega arith;
                                                                                                index = omega arith;
                                                                                              },
                                                                                            ),
                                                                                          ),
                                                                                          (
                                                                                            (
                                                                                              omega arith,
                                                                                              (
                                                                                                refl,
                                                                                                record {
                                                                                                  has = record {
                                                                                                    runs = record {
                                                                                                      phase =
                                                                                                          refl;
                                                                                                      algorithm = refl;
                                                                                                      plain = refl;
                                                                                                    };
                                                                                                    inside = refl;
                                                                                                  };
                                                                                                  checking = refl;
                                                                                                  unsure = refl;
                                                                                                  since = omega arith;
                                                                                                  upto = omega arith;
                                                                                                  near = omega arith;
                                                                                                  index = omega arith;
                                                                                                },
                                                                                              ),
                                                                                            ),
                                                                                            (
                                                                                              (
                                                                                                omega arith,
                                                                                                (
                                                                                                  refl,
                                                                                                  record {
                                                                                                    has = record {
                                                                                                      runs = record {
                                                                                                        phase
                                                                                                            = refl;
                                                                                                        algorithm = refl;
                                                                                                        plain = refl;
                                                                                                      };
                                                                                                      inside = refl;
                                                                                                    };
                                                                                                    checking = refl;
                                                                                                    unsure = refl;
                                                                                                    since = omega arith;
                                                                                                    upto = omega arith;
                                                                                                    near = omega arith;
                                                                                                    index = omega arith;
                                                                                                  },
                                                                                                ),
                                                                                              ),
                                                                                              (
                                                                                                (
                                                                                                  omega arith,
                                                                                                  (
                                                                                                    refl,
                                                                                                    record {
                                                                                                      has = record {
                                                                                                        runs = record {
                                                                                                          phase = refl;
                                                                                                          algorithm = refl;
                                                                                                          plain = refl;
                                                                                                        };
                                                                                                        inside = refl;
                                                                                                      };
                                                                                                      checking = refl;
                                                                                                      unsure = refl;
                                                                                                      since = omega arith;
                                                                                                      upto = omega arith;
                                                                                                      near = omega arith;
                                                                                                      index = omega arith;
                                                                                                    },
                                                                                                  ),
                                                                                                ),
                                                                                                (
                                                                                                  (
                                                                                                    omega arith,
                                                                                                    (
                                                                                                      refl,
                                                                                                      record {
                                                                                                        has = record {
                                                                                                          runs = record {
                                                                                                            phase = refl;
                                                                                                            algorithm = refl;
                                                                                                            plain = refl;
                                                                                                          };
                                                                                                          inside = refl;
                                                                                                        };
                                                                                                        checking = refl;
                                                                                                        unsure = refl;
                                                                                                        since = omega arith;
                                                                                                        upto = omega arith;
                                                                                                        near = omega arith;
                                                                                                        index = omega arith;
                                                                                                      },
                                                                                                    ),
                                                                                                  ),
                                                                                                  (
                                                                                                    (
                                                                                                      omega arith,
                                                                                                      (
                                                                                                        refl,
                                                                                                        record {
                                                                                                          has = record {
                                                                                                            runs = record {
                                                                                                              phase = refl;
                                                                                                              algorithm = refl;
                                                                                                              plain = refl;
                                                                                                            };
                                                                                                            inside = refl;
                                                                                                          };
                                                                                                          checking = refl;
                                                                                                          unsure = refl;
                                                                                                          since = omega arith;
                                                                                                          upto = omega arith;
                                                                                                          near = omega arith;
                                                                                                          index = omega arith;
                                                                                                        },
                                                                                                      ),
                                                                                                    ),
                                                                                                    (
                                                                                                      (
                                                                                                        omega arith,
                                                                                                        (
                                                                                                          refl,
                                                                                                          record {
                                                                                                            has = record {
                                                                                                              runs = record {
                                                                                                                phase = refl;
                                                                                                                algorithm = refl;
                                                                                                                plain = refl;
                                                                                                              };
                                                                                                              inside = refl;
                                                                                                            };
                                                                                                            checking = refl;
                                                                                                            unsure = refl;
                                                                                                            since = omega arith;
                                                                                                            upto = omega arith;
                                                                                                            near = omega arith;
                                                                                                            index = omega arith;
                                                                                                          },
                                                                                                        ),
                                                                                                      ),
                                                                                                      (
                                                                                                        (
                                                                                                          omega arith,
                                                                                                          (
                                                                                                            refl,
                                                                                                            record {
                                                                                                              has = record {
                                                                                                                runs =
                                                                                                                    record {
                                                                                                                      phase = refl;
                                                                                                                      algorithm = refl;
                                                                                                                      plain = refl;
                                                                                                                    };
                                                                                                                inside = refl;
                                                                                                              };
                                                                                                              checking = refl;
                                                                                                              unsure = refl;
                                                                                                              since = omega arith;
                                                                                                              upto = omega arith;
                                                                                                              near = omega arith;
                                                                                                              index = omega arith;
                                                                                                            },
                                                                                                          ),
                                                                                                        ),
                                                                                                        (
                                                                                                          (
                                                                                                            omega arith,
                                                                                                            (
                                                                                                              refl,
                                                                                                              record {
                                                                                                                has = record {
                                                                                                                  runs =
                                                                                                                      record {
                                                                                                                        phase = refl;
                                                                                                                        algorithm = refl;
                                                                                                                        plain = refl;
                                                                                                                      };
                                                                                                                  inside = refl;
                                                                                                                };
                                                                                                                checking = refl;
                                                                                                                unsure = refl;
                                                                                                                since = omega arith;
                                                                                                                upto = omega arith;
                                                                                                                near = omega arith;
                                                                                                                index = omega arith;
                                                                                                              },
                                                                                                            ),
                                                                                                          ),
                                                                                                          (
                                                                                                            (
                                                                                                              omega arith,
                                                                                                              (
                                                                                                                refl,
                                                                                                                record {
                                                                                                                  has = record {
                                                                                                                    runs =
                                                                                                                        record {
                                                                                                                          phase = refl;
                                                                                                                          algorithm = refl;
                                                                                                                          plain = refl;
                                                                                                                        };
                                                                                                                    inside = refl;
                                                                                                                  };
                                                                                                                  checking = refl;
                                                                                                                  unsure = refl;
                                                                                                                  since = omega arith;
                                                                                                                  upto = omega arith;
                                                                                                                  near = omega arith;
                                                                                                                  index = omega arith;
                                                                                                                },
                                                                                                              ),
                                                                                                            ),
                                                                                                            (
                                                                                                              (
                                                                                                                omega arith,
                                                                                                                (
                                                                                                                  refl,
                                                                                                                  record {
                                                                                                                    has = record {
                                                                                                                      runs =
                                                                                                                          record {
                                                                                                                            phase = refl;
                                                                                                                            algorithm = refl;
                                                                                                                            plain = refl;
                                                                                                                          };
                                                                                                                      inside = refl;
                                                                                                                    };
                                                                                                                    checking = refl;
                                                                                                                    unsure = refl;
                                                                                                                    since = omega arith;
                                                                                                                    upto = omega arith;
                                                                                                                    near = omega arith;
                                                                                                                    index = omega arith;
                                                                                                                  },
                                                                                                                ),
                                                                                                              ),
                                                                                                              (
                                                                                                                (
                                                                                                                  omega arith,
                                                                                                                  (
                                                                                                                    refl,
                                                                                                                    record {
                                                                                                                      has = record {
                                                                                                                        runs = record {
                                                                                                                          phase =
                                                                                                                              refl;
                                                                                                                          algorithm = refl;
                                                                                                                          plain = refl;
                                                                                                                        };
                                                                                                                        inside = refl;
                                                                                                                      };
                                                                                                                      checking = refl;
                                                                                                                      unsure = refl;
                                                                                                                      since = omega arith;
                                                                                                                      upto = omega arith;
                                                                                                                      near = omega arith;
                                                                                                                      index = omega arith;
                                                                                                                    },
                                                                                                                  ),
                                                                                                                ),
                                                                                                                (
                                                                                                                  (
                                                                                                                    omega arith,
                                                                                                                    (
                                                                                                                      refl,
                                                                                                                      record {
                                                                                                                        has = record {
                                                                                                                          runs = record {
                                                                                                                            phase =
                                                                                                                                refl;
                                                                                                                            algorithm = refl;
                                                                                                                            plain = refl;
                                                                                                                          };
                                                                                                                          inside = refl;
                                                                                                                        };
                                                                                                                        checking = refl;
                                                                                                                        unsure = refl;
                                                                                                                        since = omega arith;
                                                                                                                        upto = omega arith;
                                                                                                                        near = omega arith;
                                                                                                                        index = omega arith;
                                                                                                                      },
                                                                                                                    ),
                                                                                                                  ),
                                                                                                                  (
                                                                                                                    (
                                                                                                                      omega arith,
                                                                                                                      (
                                                                                                                        refl,
                                                                                                                        record {
                                                                                                                          has = record {
                                                                                                                            runs = record {
                                                                                                                              phase =
                                                                                                                                  refl;
                                                                                                                              algorithm = refl;
                                                                                                                              plain = refl;
                                                                                                                            };
                                                                                                                            inside = refl;
                                                                                                                          };
                                                                                                                          checking = refl;
                                                                                                                          unsure = refl;
                                                                                                                          since = omega arith;
                                                                                                                          upto = omega arith;
                                                                                                                          near = omega arith;
                                                                                                                          index = omega arith;
                                                                                                                        },
                                                                                                                      ),
                                                                                                                    ),
                                                                                                                    (
                                                                                                                      (
                                                                                                                        omega arith,
                                                                                                                        (
                                                                                                                          refl,
                                                                                                                          record {
                                                                                                                            has = record {
                                                                                                                              runs = record {
                                                                                                                                phase
                                                                                                                                    = refl;
                                                                                                                                algorithm = refl;
                                                                                                                                plain = refl;
                                                                                                                              };
                                                                                                                              inside = refl;
                                                                                                                            };
                                                                                                                            checking = refl;
                                                                                                                            unsure = refl;
                                                                                                                            since = omega arith;
                                                                                                                            upto = omega arith;
                                                                                                                            near = omega arith;
                                                                                                                            index =
                                                                                                                                omega arith;
                                                                                                                          },
                                                                                                                        ),
                                                                                                                      ),
                                                                                                                      (
                                                                                                                        (
                                                                                                                          omega arith,
                                                                                                                          (
                                                                                                                            refl,
                                                                                                                            record {
                                                                                                                              has =
                                                                                                                                  record {
                                                                                                                                    runs =
                                                                                                                                        record {
                                                                                                                                          phase =
                                                                                                                                              refl;
                                                                                                                                          algorithm = refl;
                                                                                                                                          plain = refl;
                                                                                                                                        };
                                                                                                                                    inside = refl;
                                                                                                                                  };
                                                                                                                              checking = refl;
                                                                                                                            },
                                                                                                                          ),
                                                                                                                        ),
                                                                                                                        (
                                                                                                                          (
                                                                                                                            omega arith,
                                                                                                                            one_move (record {
                                                                                                                              runs = record {
                                                                                                                                phase = refl;
                                                                                                                                algorithm = refl;
                                                                                                                                plain = refl;
                                                                                                                              };
                                                                                                                              inside = refl;
                                                                                                                            })
                                                                                                                                refl refl refl
                                                                                                                                refl refl refl
                                                                                                                                refl refl refl
                                                                                                                                refl refl refl
                                                                                                                                refl refl refl
                                                                                                                                refl refl refl
                                                                                                                                refl refl refl,
                                                                                                                          ),
                                                                                                                          (
                                                                                                                            (
                                                                                                                              omega arith,
                                                                                                                              record {
                                                                                                                                phase =
                                                                                                                                    refl;
                                                                                                                                reopened =
                                                                                                                                    λ e. refl;
                                                                                                                                unlocked = refl;
                                                                                                                                disowned = refl;
                                                                                                                                unwritten =
                                                                                                                                    refl;
                                                                                                                                uncommitted =
                                                                                                                                    refl;
                                                                                                                                unentered =
                                                                                                                                    λ e. refl;
                                                                                                                              },
                                                                                                                            ),
                                                                                                                            tt,
                                                                                                                          ),
                                                                                                                        ),
                                                                                                                      ),
                                                                                                                    ),
                                                                                                                  ),
                                                                                                                ),
                                                                                                              ),
                                                                                                            ),
                                                                                                          ),
                                                                                                        ),
                                                                                                      ),
                                                                                                    ),
                                                                                                  ),
                                                                                                ),
                                                                                              ),
                                                                                            ),
                                                                                          ),
                                                                                        ),
                                                                                      ),
                                                                                    ),
                                                                                  ),
                                                                                ),
                                                                              ),
                                                                            ),
                                                                          ),
                                                                        ),
                                                                      ),
                                                                    ),
                                                                  ),
                                                                ),
                                                              ),
                                                            ),
                                                          ),
                                                        ),
                                                      ),
                                                    ),
                                                  ),
                                                ),
                                              ),
                                            ),
                                          ),
                                        ),
                                      ),
                                    ),
                                  ),
                                ),
                              ),
                            ),
                          ),
                        ),
                      ),
                    ),
                  ),
                ),
              ),
            ),
          ),
        ),
      ),
    ),
  ),
  refl,
  refl,
)
