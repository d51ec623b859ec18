-- For those above: the laws of reports and tests, what the contracts say, and the theorem (`series`, in Theorem). Its invariant, a ledger and its
-- search after each call, the kept copies, and both together, is nobody else's.
pub mod Reports
pub mod Tests
pub mod Contracts
mod Ledgers
mod Copies
mod Current
pub mod Theorem
