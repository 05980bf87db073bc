pub mod EveryExchange
