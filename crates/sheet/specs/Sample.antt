-- The question that the sheet corrects.
use Rattle.pricing.specs.declared.kinds.Kind.TheVariants.{Look, Fetch}
use Rattle.plans.specs.Questions.{Question}
use Rattle.catalogue.specs.Changes.{empty, with_table, with_test, with_tie}

-- Tables of 100 films, 10 reels, 8 cartridges and 3 shelves.
abbrev pub tables : Question
tables = with_table (with_table (with_table (with_table empty 100) 10) 8) 3

-- Films tied to reels, reels to cartridges, and cartridges to shelves.
abbrev pub ties : Question
ties =
    with_tie (with_tie (with_tie tables 0 1 (record { p = 1; q = 100; cost = 60 })) 1 2 (record { p = 1; q = 8; cost = 5 })) 2 3 (record { p = 1; q = 3; cost = 1 })

-- A film is fetched to test it, and a cartridge looked up.
abbrev pub sample : Question
sample = with_test (with_test ties 0 (record { p = 1; q = 2; cost = 350; kind = Fetch })) 2 (record { p = 1; q = 2; cost = 20; kind = Look })
