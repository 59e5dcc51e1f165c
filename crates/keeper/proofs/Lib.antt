pub mod FrontKept
pub mod FrontUnique
pub mod IndexSplit
pub mod OffersInTurn
pub mod PartsWritten
pub mod SlotsCleared
