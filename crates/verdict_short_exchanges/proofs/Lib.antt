pub mod EveryShortExchange
